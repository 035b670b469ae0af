use Rattle.std.specs.Prelude.{[]}
use Rattle.std.proofs.Common.{refl}
use Rattle.lf_unification.specs.PartialInstance.{IsFilling}
use Rattle.lf_unification.proofs.Fillings.{TypeBySkeletonsUpTo-of, fillings_half}
use Rattle.lf_unification.proofs.OpenSound.{PartialInstance-of}
use Rattle.lf_unification.proofs.Putting.{put_some, put_unbound, some_same, some_typed, typed_at}
use Rattle.lf_unification.proofs.putting_in_keeps.Goals as goal

pub returns : goal.returns
returns c = λ Σ ok s w A M M' a m. (
  λ d. (
    some_typed Σ ok s.metavariables (IsFilling Σ [] s) w.declarations_typed (fillings_half Σ [] s) s.bindings (typed_at Σ [] s.metavariables (IsFilling Σ [] s) s.bindings w.bindings_typed) (λ β u. u.2.0) d [] A refl (λ i X g. absurd g)
        (λ β u. TypeBySkeletonsUpTo-of Σ ok [] s.metavariables (IsFilling Σ [] s) [] A a (fillings_half Σ [] s β u).0 β (fillings_half Σ [] s β u).1 u) m,
    λ F β u. some_same Σ ok [] s.metavariables (IsFilling Σ [] s) s.bindings (typed_at Σ [] s.metavariables (IsFilling Σ [] s) s.bindings w.bindings_typed) F β (PartialInstance-of Σ ok [] s.metavariables (λ m. ⊥) F β u.0) u.1.0 [] M M' A m d,
  ),
  λ d. (put_some d, put_unbound d),
)
