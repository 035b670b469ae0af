-- Each typed unifier of the store of a declaration makes a completion of what is written.
use Rattle.std.proofs.Common.{◌≡◌, ℕ, zero, suc, List, [], ◌∷◌, Option, Some, None, refl, sym, ap, ◌∙◌, subst}
use Rattle.std.specs.Prelude.{slice_get}
use Rattle.lf.specs.Entries.{Entry, IsCanonicalSignature, signature_of}
use Rattle.lf.specs.Syntax.{Kind, LfType, Skeleton, Term, atom, constant, kind_pi, nil, root, skeleton, star}
use Rattle.lf.specs.Typing.{HasType, IsSignature, Signature}
use Rattle.lf.proofs.Entries.{canonical_is_signature}
use Rattle.lf_unification.specs.Filling.{fill_type, moved}
use Rattle.lf_unification.specs.OpenTyping.{OpenIsType, ValueHasType, skeletons_of}
use Rattle.lf_unification.specs.PartialInstance.{IsFilling}
use Rattle.lf_unification.specs.Unifiers.{Solution}
use Rattle.lf_unification.proofs.Agree.{set_here}
use Rattle.lf_unification.proofs.Filling.{skeleton_fill}
use Rattle.lf_unification.proofs.Fillings.{fillings_half}
use Rattle.lf_unification.proofs.OpenTypes.{fill_kind as filled_kind}
use Rattle.lf_elaboration.specs.Completions.{CompletesKind, FreeValue, FreesAreTyped}
use Rattle.lf_elaboration.specs.Elaboration.{NewFrees, next_free, no_frees}
use Rattle.lf_elaboration.specs.Kinds.{fill_kind}
use Rattle.lf_elaboration.specs.Laws.{HasFreeValues, InstanceIsCompletion}
use Rattle.lf_elaboration.specs.Skeletons.{StateHasSkeletons}
use Rattle.lf_elaboration.specs.State.{State, nothing_yet, store_of, with_metavariable}
use Rattle.lf_elaboration.specs.WrittenSkeletons.{FreesStand}
use Rattle.lf_elaboration.proofs.Adds.{Grows, checks_adds, frees_add, infers_adds, kind_adds, type_adds}
use Rattle.lf_elaboration.proofs.Filled.{checks_filled, filled_type, infers_filled, kind_filled, type_filled}
use Rattle.lf_elaboration.proofs.Had.{frees_stand}
use Rattle.lf_elaboration.proofs.Made.{total_types, within_itself}
use Rattle.lf_elaboration.proofs.Skeletons.{checks_skeletons, frees_skeletons, infers_skeletons, kind_skeletons, new_state, new_type_skeletons, nothing_has_skeletons, type_skeletons}
use Rattle.lf_elaboration.proofs.Typed.{StateIsTyped, checks_typed_up_to, frees_typed, infers_typed, kind_typed, nothing_typed, type_typed, within_before}

abbrev term_of : Option Term → Term
term_of (Some N) = N
term_of None = root (constant 0) nil

abbrev type_of_number : Option LfType → LfType
type_of_number (Some A) = A
type_of_number None = atom 0 nil

abbrev value_at : (ℕ → Option LfType) → (ℕ → Option Term) → ℕ → FreeValue
value_at Ψ β m = record { term = term_of (β m); of_type = fill_type (skeletons_of Ψ) β (type_of_number (Ψ m)) }

-- the values of the free variables, read off
abbrev values_at : (ℕ → Option LfType) → (ℕ → Option Term) → List ℕ → List FreeValue
values_at Ψ β [] = []
values_at Ψ β (m ∷ ms) = value_at Ψ β m ∷ values_at Ψ β ms

value_found : (Ψ : ℕ → Option LfType) (β : ℕ → Option Term) (ms : List ℕ) (i m : ℕ) → slice_get ms i ≡ Some m → slice_get (values_at Ψ β ms) i ≡ Some (value_at Ψ β m)
value_found Ψ β [] i m e = absurd (cc)
value_found Ψ β (n ∷ ms) zero m e = let p : n ≡ m = cc in ap (λ k. Some (value_at Ψ β k)) p
value_found Ψ β (n ∷ ms) (suc i) m e = value_found Ψ β ms i m e

typed_value : (Σ : Signature) (F : List LfType) (μ : ℕ → Skeleton) (β : ℕ → Option Term) (x : Option LfType) (y : Option Term) (A : LfType) → ValueHasType Σ F μ β x y → x ≡ Some A → (y ≡ Some (term_of y)) × HasType Σ F (term_of y) (fill_type μ β A)
typed_value Σ F μ β None y A t e = absurd (cc)
typed_value Σ F μ β (Some B) None A t e = absurd t
typed_value Σ F μ β (Some B) (Some N) A t e = (refl, (let p : B ≡ A = cc in subst (λ X. HasType Σ F N (fill_type μ β X)) p t))

module _ (es : List Entry) (canonical : IsCanonicalSignature es) (z : State) (zs : StateHasSkeletons (signature_of es) z) (zt : StateIsTyped es canonical z.metavariables (IsFilling (signature_of es) [] (store_of z)) (fillings_half (signature_of es) [] (store_of z)) (total_types (signature_of es) z zs) z) (F : List LfType) (β : ℕ → Option Term) (sol : Solution (signature_of es) [] (store_of z) F β) where
  abbrev Σ : Signature
  Σ = signature_of es

  abbrev ok : IsSignature (signature_of es)
  ok = canonical_is_signature es canonical

  value_typed : (m : ℕ) (A : LfType) → z.metavariables m ≡ Some A → (β m ≡ Some (term_of (β m))) × HasType Σ F (term_of (β m)) (fill_type (skeletons_of z.metavariables) β A)
  value_typed m A e = typed_value Σ F (skeletons_of z.metavariables) β (z.metavariables m) (β m) A (sol.0.typed m) e

  frees_are_typed : {ts : List Skeleton} {s s' : State} {ms : List ℕ} → NewFrees es ts s s' ms → StateHasSkeletons Σ s → ((m : ℕ) (A : LfType) → s'.metavariables m ≡ Some A → z.metavariables m ≡ Some A) → FreesAreTyped es F ts (values_at z.metavariables β ms)
  frees_are_typed no_frees w g = tt
  frees_are_typed (next_free {s = s} {s' = s'} {s'' = s''} {A = A} x f) w g =
      let (w', a, p) = new_type_skeletons es canonical x w tt in
      let w₁ : StateHasSkeletons Σ (with_metavariable [] A s') = new_state Σ ok [] A s' w' tt a in
      let k : Grows (with_metavariable [] A s') s'' = frees_add es f w₁.numbered in
      let e : z.metavariables s'.next ≡ Some A = g s'.next A (k.keeps s'.next A (set_here s'.next (Some A) s'.metavariables)) in
      let q : A ≡ type_of_number (z.metavariables s'.next) = sym (ap type_of_number e) in (
        (
          skeleton_fill (skeletons_of z.metavariables) β (type_of_number (z.metavariables s'.next)) ∙ ap skeleton (sym q) ∙ p,
          filled_type es canonical z zs zt F β sol [] [] (λ i m h. absurd (cc)) [] (type_of_number (z.metavariables s'.next)) tt (subst (λ X. OpenIsType Σ [] z.metavariables (IsFilling Σ [] (store_of z)) [] X) q (zt.types s'.next A e)),
          subst (λ X. HasType Σ F (term_of (β s'.next)) (fill_type (skeletons_of z.metavariables) β X)) q (value_typed s'.next A e).1,
        ),
        frees_are_typed f w₁ g,
      )

  abbrev FreesFit : List ℕ → Type 0
  FreesFit frees = (i m : ℕ) → slice_get frees i ≡ Some m → (v : FreeValue) × (slice_get (values_at z.metavariables β frees) i ≡ Some v) × (β m ≡ Some v.term) × ((B : LfType) → z.metavariables m ≡ Some B → fill_type (skeletons_of z.metavariables) β B ≡ v.of_type)

  frees_fit : (ts : List Skeleton) (frees : List ℕ) (s : State) → FreesStand es ts frees s.metavariables → ((m : ℕ) (A : LfType) → s.metavariables m ≡ Some A → z.metavariables m ≡ Some A) → FreesFit frees
  frees_fit ts frees s stand g i m e =
      let (B, b, q) = stand.only i m e in
      (value_at z.metavariables β m, value_found z.metavariables β frees i m e, (value_typed m B (g m B b)).0, λ C c. ap (fill_type (skeletons_of z.metavariables) β) (sym (ap type_of_number c)))

  has_values : (ts : List Skeleton) (frees : List ℕ) (s : State) → FreesStand es ts frees s.metavariables → ((m : ℕ) (A : LfType) → s.metavariables m ≡ Some A → z.metavariables m ≡ Some A) → FreesFit frees → HasFreeValues frees (values_at z.metavariables β frees) z.metavariables β
  has_values ts frees s stand g fit i m v p q =
      let (B, b, o) = stand.only i m p in
      let (y, r, t, k) = fit i m p in
      let e : y ≡ v = (let x : Some y ≡ Some v = sym r ∙ q in cc) in
      (B, g m B b, t ∙ ap (λ x. Some x.term) e, k B (g m B b) ∙ ap (λ x. x.of_type) e)

kind_same : (μ : ℕ → Skeleton) (β : ℕ → Option Term) (K : Kind) → filled_kind μ β K ≡ fill_kind μ β K
kind_same μ β (kind_pi A K) = ap (kind_pi (fill_type μ β A)) (kind_same μ (moved suc β) K)
kind_same μ β star = refl

pub instance_completion : InstanceIsCompletion
instance_completion es canonical ts frees s f F β =
    let ok : IsSignature (signature_of es) = canonical_is_signature es canonical in
    let n : StateHasSkeletons (signature_of es) nothing_yet = nothing_has_skeletons (signature_of es) ok in
    let k : StateHasSkeletons (signature_of es) s = frees_skeletons es canonical f n in
    let stand : FreesStand es ts frees s.metavariables = frees_stand es canonical f n in (
      (λ s' V A x sol.
          let w = (type_skeletons es canonical frees x k tt).0 in
          let g : Grows s s' = type_adds es frees x k.numbered in
          let Ψ : ℕ → Option LfType = s'.metavariables in
          let U : (ℕ → Option Term) → Type 0 = IsFilling (signature_of es) [] (store_of s') in
          let h = fillings_half (signature_of es) [] (store_of s') in
          let d = total_types (signature_of es) s' w in
          let i = within_itself es canonical s' w in
          let t₀ = frees_typed es canonical Ψ U h d f n.numbered (within_before es canonical Ψ U h d s s' g i) (nothing_typed es canonical Ψ U h d) in
          let t = (type_typed es canonical Ψ U h d frees x k.numbered i tt t₀).0 in
          let fit = frees_fit es canonical s' w t F β sol ts frees s stand g.keeps in
          (values_at Ψ β frees, frees_are_typed es canonical s' w t F β sol f n g.keeps, has_values es canonical s' w t F β sol ts frees s stand g.keeps fit, type_filled es canonical s' w t F β sol frees (values_at Ψ β frees) fit x k.numbered i tt t₀)),
      (λ s' y K x sol.
          let w = (kind_skeletons es canonical frees x k tt).0 in
          let g : Grows s s' = kind_adds es frees x k.numbered in
          let Ψ : ℕ → Option LfType = s'.metavariables in
          let U : (ℕ → Option Term) → Type 0 = IsFilling (signature_of es) [] (store_of s') in
          let h = fillings_half (signature_of es) [] (store_of s') in
          let d = total_types (signature_of es) s' w in
          let i = within_itself es canonical s' w in
          let t₀ = frees_typed es canonical Ψ U h d f n.numbered (within_before es canonical Ψ U h d s s' g i) (nothing_typed es canonical Ψ U h d) in
          let t = (kind_typed es canonical Ψ U h d frees x k.numbered i tt t₀).0 in
          let fit = frees_fit es canonical s' w t F β sol ts frees s stand g.keeps in
          (values_at Ψ β frees, frees_are_typed es canonical s' w t F β sol f n g.keeps, has_values es canonical s' w t F β sol ts frees s stand g.keeps fit, subst (CompletesKind es F (values_at Ψ β frees) [] y) (kind_same (skeletons_of Ψ) β K) (kind_filled es canonical s' w t F β sol frees (values_at Ψ β frees) fit x k.numbered i tt t₀))),
      (λ s' M R A x sol.
          let w = (infers_skeletons es canonical frees x k tt).0 in
          let g : Grows s s' = infers_adds es frees x k.numbered in
          let Ψ : ℕ → Option LfType = s'.metavariables in
          let U : (ℕ → Option Term) → Type 0 = IsFilling (signature_of es) [] (store_of s') in
          let h = fillings_half (signature_of es) [] (store_of s') in
          let d = total_types (signature_of es) s' w in
          let i = within_itself es canonical s' w in
          let t₀ = frees_typed es canonical Ψ U h d f n.numbered (within_before es canonical Ψ U h d s s' g i) (nothing_typed es canonical Ψ U h d) in
          let t = (infers_typed es canonical Ψ U h d frees x k.numbered i tt t₀).0 in
          let fit = frees_fit es canonical s' w t F β sol ts frees s stand g.keeps in
          (values_at Ψ β frees, frees_are_typed es canonical s' w t F β sol f n g.keeps, has_values es canonical s' w t F β sol ts frees s stand g.keeps fit, infers_filled es canonical s' w t F β sol frees (values_at Ψ β frees) fit x k.numbered i tt t₀)),
      (λ s' s'' V M R A x y sol.
          let (w', a) = type_skeletons es canonical frees x k tt in
          let w = (checks_skeletons es canonical frees y w' tt a).0 in
          let g : Grows s s' = type_adds es frees x k.numbered in
          let g' : Grows s' s'' = checks_adds es frees y w'.numbered in
          let Ψ : ℕ → Option LfType = s''.metavariables in
          let U : (ℕ → Option Term) → Type 0 = IsFilling (signature_of es) [] (store_of s'') in
          let h = fillings_half (signature_of es) [] (store_of s'') in
          let d = total_types (signature_of es) s'' w in
          let i = within_itself es canonical s'' w in
          let i' = within_before es canonical Ψ U h d s' s'' g' i in
          let t₀ = frees_typed es canonical Ψ U h d f n.numbered (within_before es canonical Ψ U h d s s' g i') (nothing_typed es canonical Ψ U h d) in
          let (t', b) = type_typed es canonical Ψ U h d frees x k.numbered i' tt t₀ in
          let t = (checks_typed_up_to es canonical Ψ U h d frees y w'.numbered i tt b t').0 in
          let keeps : (m : ℕ) (B : LfType) → s.metavariables m ≡ Some B → s''.metavariables m ≡ Some B = λ m B e. g'.keeps m B (g.keeps m B e) in
          let fit = frees_fit es canonical s'' w t F β sol ts frees s stand keeps in (
            values_at Ψ β frees,
            frees_are_typed es canonical s'' w t F β sol f n keeps,
            has_values es canonical s'' w t F β sol ts frees s stand keeps fit,
            type_filled es canonical s'' w t F β sol frees (values_at Ψ β frees) fit x k.numbered i' tt t₀,
            checks_filled es canonical s'' w t F β sol frees (values_at Ψ β frees) fit y w'.numbered i tt b t',
          )),
    )
