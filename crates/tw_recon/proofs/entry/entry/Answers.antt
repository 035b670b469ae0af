use Rattle.std.proofs.Common.{subst}
use Rattle.lf.specs.Depth.{depth_limit}
use Rattle.lf.specs.Entries.{BodyIsWithin}
use Rattle.tw_signature.specs.View.{body_of}
use Rattle.tw_recon.proofs.Depths.{quantifiers_within}
use Rattle.tw_recon.proofs.entry.entry.Goals as goal

pub implicit_count-implicit-requires : goal.implicit_count-implicit-requires
implicit_count-implicit-requires c =
    quantifiers_within depth_limit c.args.completed.quantifiers (body_of c.args.completed.body) (subst (BodyIsWithin depth_limit) c.in_ok-body.ensures.closed c.in-Ok.ensures.within)
