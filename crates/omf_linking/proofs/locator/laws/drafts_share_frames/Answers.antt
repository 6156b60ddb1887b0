use Rattle.omf_linking.proofs.SharingLaws.{drafts-share-frames}
use Rattle.omf_linking.proofs.locator.laws.drafts_share_frames.Goals as goal

pub returns : goal.returns
returns c = drafts-share-frames
