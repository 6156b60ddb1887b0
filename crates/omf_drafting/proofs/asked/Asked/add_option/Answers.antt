use Rattle.std.proofs.Common.{◌≡◌, ◌∙◌, ◌++◌, [], ap, append-nil, map, string_bytes, sym}
use Rattle.std.specs.Prelude.{option_to_list}
use Rattle.omf_drafting.proofs.AskedLaws.{two_words, valued_no_file, valued_no_output, valued_no_text, valued_option}
use Rattle.omf_drafting.proofs.asked.Asked.add_option.Goals as goal

pub returns : goal.returns
returns c =
    let name = c.args.argument.now in
    let value = c.args.value.now in
    record {
      words = two_words string_bytes c.args.self.now.words.items c.push.new.self.items c.push-2.new.self.items c.in_ok-option.option c.in_ok-value.value name value c.in_ok-push.ensures.items c.in_ok-push-2.ensures.items c.in_ok-option.ensures.ok c.in_ok-value.ensures.ok
          ∙ ap (λ l. map string_bytes c.args.self.now.words.items ++ l) (sym (valued_option name c.requires value));
      files = sym (ap (λ l. map string_bytes c.args.self.now.files.items ++ l) (valued_no_file name c.requires value) ∙ append-nil (map string_bytes c.args.self.now.files.items));
      text = sym (ap (λ l. map string_bytes (option_to_list c.args.self.now.text) ++ l) (valued_no_text name c.requires value) ∙ append-nil (map string_bytes (option_to_list c.args.self.now.text)));
      output = sym (ap (λ l. map string_bytes (option_to_list c.args.self.now.output) ++ l) (valued_no_output name c.requires value) ∙ append-nil (map string_bytes (option_to_list c.args.self.now.output)));
    }
