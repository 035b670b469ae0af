-- A worked row: cp b.x c.x shares nothing with the head of cp-app.
use Rattle.std.proofs.Common.{◌≡◌, ℕ, arith}
use Rattle.lf_unification.specs.Steps.{CanRefute, constants_differ, no_step}
use Rattle.lf_totality.specs.Examples.{Copying}
use Rattle.lf_numbered.specs.EntryConstants.{with_entries}
use Rattle.lf_numbered.specs.ExamplesNumbered.{two_copies}
use Rattle.lf_numbered.specs.MeetsInstanceExamples.{TwoCopiesShareNone, copies_store}
use Rattle.lf_numbered.specs.OwnTerms.{blocks_of}
use Rattle.lf_numbered.proofs.NumberedAnswersExamples.{two_copies_are_apart}

differ : ◌≡◌ {A = ℕ} 4 2 → ⊥
differ e = omega (arith, e)

apart_refuted : CanRefute (with_entries Copying 4 (blocks_of two_copies.blocks)) (copies_store 1)
apart_refuted = record { reached = _; run = no_step; refuted = constants_differ differ }

one_refuted : CanRefute (with_entries Copying 4 (blocks_of two_copies.blocks)) (copies_store 0)
one_refuted = record { reached = _; run = no_step; refuted = constants_differ differ }

pub two_copies_share_none : TwoCopiesShareNone
two_copies_share_none = let (needs, refuted, a) = two_copies_are_apart in (apart_refuted, one_refuted, a.no_instance)
