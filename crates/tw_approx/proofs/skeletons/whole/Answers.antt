use Rattle.std.proofs.Common.{Some, sym, subst}
use Rattle.tw_approx.specs.Reading.{IsWhole, FamilyWithin}
use Rattle.tw_shapes.specs.Shapes.{count_of}
use Rattle.tw_approx.proofs.Known.{unknown_whole_reads}
use Rattle.tw_approx.proofs.skeletons.whole.Goals as goal

pub returns-in-Known : goal.returns-in-Known
returns-in-Known c = λ s h v. subst (λ G. IsWhole s s G c.known_whole.result) (sym c.in-Known.is) (c.known_whole.ensures s h (subst (FamilyWithin (count_of s.store)) c.in-Known.is v))

pub returns-in-Unknown : goal.returns-in-Unknown
returns-in-Unknown c = λ s h v. subst (λ G. IsWhole s s G (Some c.in-Unknown.target)) (sym c.in-Unknown.is) (unknown_whole_reads s c.in-Unknown.target h (subst (FamilyWithin (count_of s.store)) c.in-Unknown.is v))
