-- Where metavariables were only declared, nothing is bound.
use Rattle.std.proofs.Common.{◌≡◌, ℕ, zero, suc, List, [], ◌∷◌, ◌++◌, length, Option, Some, None, refl, sym, ap, ◌∙◌}
use Rattle.std.specs.List.{slice_get}
use Rattle.lf.specs.Syntax.{LfType, Term}
use Rattle.tw_metas.specs.State.{Declaration, State, Story, empty_state, empty_story, joined, with_declared}
use Rattle.tw_open.specs.Fresh.{OnlyDeclares, declares_nothing, declares_one}
use Rattle.tw_elaborate.specs.Unbound.{NothingBound}

value_behind : (vs : List (Option Term)) (m : ℕ) (N : Term) → joined (slice_get (vs ++ None ∷ []) m) ≡ Some N → joined (slice_get vs m) ≡ Some N
value_behind [] zero N e = absurd (cc)
value_behind [] (suc m) N e = absurd (cc)
value_behind (v ∷ vs) zero N e = e
value_behind (v ∷ vs) (suc m) N e = value_behind vs m N e

context_behind : (ds : List Declaration) (x : Declaration) → x.context ≡ [] → ((m : ℕ) (d : Declaration) → slice_get ds m ≡ Some d → d.context ≡ []) → (m : ℕ) (d : Declaration) → slice_get (ds ++ x ∷ []) m ≡ Some d → d.context ≡ []
context_behind [] x c f zero d e = (let p : x ≡ d = cc in sym (ap (λ (y : Declaration). y.context) p) ∙ c)
context_behind [] x c f (suc m) d e = absurd (cc)
context_behind (y ∷ ds) x c f zero d e = f zero d e
context_behind (y ∷ ds) x c f (suc m) d e = context_behind ds x c (λ k. f (suc k)) m d e

one_longer : {A : Type 0} (xs : List A) (x : A) → length (xs ++ x ∷ []) ≡ suc (length xs)
one_longer [] x = refl
one_longer (y ∷ xs) x = ap suc (one_longer xs x)

declared_unbound : (s : State) (A : LfType) → NothingBound s → NothingBound (with_declared s [] A)
declared_unbound s A n = record {
  places = one_longer s.values None ∙ ap suc n.places ∙ sym (one_longer s.declared (record { context = []; of_type = A }));
  contexts = context_behind s.declared (record { context = []; of_type = A }) refl n.contexts;
  no_value = λ m N e. n.no_value m N (value_behind s.values m N e);
  none_bound = n.none_bound;
  none_postponed = n.none_postponed;
}

still_unbound : {s t : Story} → OnlyDeclares s t → NothingBound s.now → NothingBound t.now
still_unbound declares_nothing n = n
still_unbound (declares_one {t = t} A d) n = declared_unbound t.now A (still_unbound d n)

nothing : NothingBound empty_state
nothing = record { places = refl; contexts = λ m d e. absurd (cc); no_value = λ m N e. cc; none_bound = refl; none_postponed = refl }

-- from nothing
pub only_declared_unbound : {t : Story} → OnlyDeclares empty_story t → NothingBound t.now
only_declared_unbound d = still_unbound d nothing
