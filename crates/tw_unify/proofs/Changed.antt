-- What a binding, a loss and a renewal make of the store.
use Rattle.std.proofs.Common.{◌≡◌, ℕ, zero, suc, List, [], ◌∷◌, ◌++◌, length, Option, Some, refl, sym, ap, ◌∙◌, subst}
use Rattle.std.specs.Prelude.{slice_get}
use Rattle.std.specs.Option.{option_map}
use Rattle.lf.specs.Syntax.{LfType, Spine, Term}
use Rattle.lf_unification.specs.OpenTyping.{Declares, MetavariablesIn}
use Rattle.tw_metas.specs.State.{Declaration, IsUnbound, State, with_declared, with_value}
use Rattle.tw_terms.specs.declared.canonical.MetaId.{MetaId}
use Rattle.tw_putting.specs.Stores.{bindings_of, types_of}
use Rattle.tw_putting.specs.Whole.{IsConsistent}
use Rattle.tw_putting.proofs.Changes.{bindings_with_declared, bindings_with_value, consistent_with_declared, still_unbound}
use Rattle.tw_unify.specs.Flexible.{pruned_state, pruned_value}
use Rattle.tw_unify.specs.Reaching.{IsClosed, IsKnown, IsMarked, Marking}
use Rattle.tw_unify.specs.Watching.{BindsOne, KeepsBindings}
use Rattle.tw_unify.proofs.Reaching.{closed_bound, nothing_closed}

-- a metavariable is bound
pub binds_value : (s : State) → IsConsistent s → (m : MetaId) (N : Term) → IsUnbound s m.0 → (t : State) → t ≡ with_value s m.0 N → BindsOne s m t
binds_value s c m N u t e = subst (BindsOne s m) (sym e) (record { value = N; grows = λ k A h. h; bindings = bindings_with_value s c m.0 N u; equations = refl })

more_declared : (ds es : List Declaration) (k : ℕ) (A : LfType) → option_map (λ (d : Declaration). d.of_type) (slice_get ds k) ≡ Some A → option_map (λ (d : Declaration). d.of_type) (slice_get (ds ++ es) k) ≡ Some A
more_declared [] es k A h = absurd cc
more_declared (d ∷ ds) es zero A h = h
more_declared (d ∷ ds) es (suc k) A h = more_declared ds es k A h

-- it is bound to a new one
pub binds_pruned : (s : State) → IsConsistent s → (m : MetaId) (Y : LfType) (S : Spine) → IsUnbound s m.0 → (t : State) → t ≡ pruned_state s m.0 Y S → BindsOne s m t
binds_pruned s c m Y S u t e =
    let V : Term = pruned_value s m.0 (length s.declared) S in
    subst (BindsOne s m) (sym e) (record {
      value = V;
      grows = λ k A h. more_declared s.declared (record { context = []; of_type = Y } ∷ []) k A h;
      bindings = bindings_with_value (with_declared s [] Y) (consistent_with_declared s [] Y c) m.0 V (still_unbound s [] Y m.0 u) ∙ ap (λ bs. record { of = m.0; value = V } ∷ bs) (bindings_with_declared s [] Y);
      equations = refl;
    })

-- what is closed stays so where a metavariable is bound that wasn't met, or is bound to something that was
pub closed_value : (s : State) → IsConsistent s → (m : ℕ) (N : Term) → IsUnbound s m → (w : Marking) → IsClosed (types_of s) (bindings_of s) w → (IsMarked w m → MetavariablesIn (IsMarked w) N) → IsClosed (types_of (with_value s m N)) (bindings_of (with_value s m N)) w
closed_value s c m N u w k i = subst (λ bs. IsClosed (types_of s) bs w) (sym (bindings_with_value s c m N u)) (closed_bound (types_of s) (bindings_of s) (record { of = m; value = N }) w k i)

-- and where the metavariables and the bindings stay
pub closed_kept : (s t : State) (w : Marking) → KeepsBindings s t → IsClosed (types_of s) (bindings_of s) w → IsClosed (types_of t) (bindings_of t) w
closed_kept s t w (p, q) c = subst (λ Ψ. IsClosed Ψ (bindings_of t) w) (sym p) (subst (λ bs. IsClosed (types_of s) bs w) (sym q) c)

pub known_kept : (s t : State) (w : Marking) → KeepsBindings s t → IsKnown s w → IsKnown t w
known_kept s t w (p, q) d = record { closed = closed_kept s t w (p, q) d.closed; declared = λ k h. subst (λ (Ψ : ℕ → Option LfType). Declares Ψ k) (sym p) (d.declared k h) }

-- of nothing nothing is known
pub nothing_known : (s : State) (w : Marking) → ((k : ℕ) → IsMarked w k → ⊥) → w.due ≡ [] → IsKnown s w
nothing_known s w none e = record { closed = nothing_closed (types_of s) (bindings_of s) w none e; declared = λ k h. absurd (none k h) }
