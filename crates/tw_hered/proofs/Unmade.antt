-- Functions that apply closures at once.
use Rattle.std.proofs.Common.{◌≡◌, ℕ, zero, suc, ◌<◌, ◌∙◌, arith, refl, sym, ap}
use Rattle.lf.specs.Syntax as lf
use Rattle.lf_closures.specs.Environments as pure
use Rattle.lf_closures.specs.Environments.{found}
use Rattle.tw_hered.specs.Made.{applies_closure, is_closure}

-- under a binder the variable at the head decides
under_some : (e : pure.Environment) (n i : ℕ) (S : lf.Spine) → 0 < n → applies_closure e n (lf.root (lf.variable i) S) ≡ is_closure (found (pure.under n e) i)
under_some e zero i S p = let no : ⊥ = omega arith in absurd no
under_some e (suc n) i S p = refl

-- what is found for it says whether the whole term applies a closure
pub applied : (e : pure.Environment) (n i : ℕ) (S : lf.Spine) (M N : lf.Term) (f : pure.Found) → 0 < n → applies_closure e n M ≡ applies_closure e 0 N → M ≡ lf.root (lf.variable i) S
    → f ≡ found (pure.under n e) i → is_closure f ≡ applies_closure e 0 N
applied e n i S M N f p same is found_is = ap is_closure found_is ∙ sym (under_some e n i S p) ∙ ap (applies_closure e n) (sym is) ∙ same
