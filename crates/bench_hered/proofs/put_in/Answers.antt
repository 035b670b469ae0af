use Rattle.tw_terms.proofs.Views.{skeleton_of-Base}
use Rattle.bench_hered.proofs.Typed.{put_in_fits}
use Rattle.bench_hered.proofs.put_in.Goals as goal

pub substitute-requires : goal.substitute-requires
substitute-requires c = put_in_fits _ _ _ c.zero.ensures (skeleton_of-Base _) c.requires
