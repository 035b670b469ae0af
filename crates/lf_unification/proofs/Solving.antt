-- What the answers of solving give: a typed unifier of what is solved, and the child of a search.
use Rattle.std.proofs.Common.{◌≡◌, ℕ, List, [], ◌∷◌, Option, Some, None, ◌⊎◌, inl, inr, refl, sym, ap, ◌∙◌, subst}
use Rattle.lf.specs.Subordination.{Member}
use Rattle.lf.specs.Syntax.{Term, LfType}
use Rattle.lf.specs.Typing.{IsContext, IsSignature, Signature}
use Rattle.lf_unification.specs.Dependency.{IsDependencyOrder, IsListed, ListedMetavariable, free_context, values}
use Rattle.lf_unification.specs.OpenTyping.{ValueHasType, skeletons_of}
use Rattle.lf_unification.specs.PartialInstance.{IsFilling, PartialInstance}
use Rattle.lf_unification.specs.Search.{IsChild}
use Rattle.lf_unification.specs.Solving.{AllLeftOver, BindingsAreListed, IsWellFormed, Left, Never, Solved, ValuesAreBindings}
use Rattle.lf_unification.specs.Putting.{Unbound}
use Rattle.lf_unification.specs.Unifiers.{Binding, Equation, KeepsUnifiers, MostGeneral, Solution, Store, Unifies}
use Rattle.lf_unification.proofs.Answer.{answer_of}
use Rattle.lf_unification.proofs.Offer.{decide}
use Rattle.lf_unification.proofs.Putting.{respects_at}
use Rattle.lf_unification.proofs.Typed.{Known, values_typed}

-- A well-formed store without equations has a typed unifier: each free metavariable is a variable of the context.
pub well_formed_answer : (Σ : Signature) (ok : IsSignature Σ) (s : Store) (w : IsWellFormed Σ s) → s.equations ≡ [] → Solution Σ [] s (free_context (skeletons_of s.metavariables) w.order) (values (skeletons_of s.metavariables) w.order)
well_formed_answer Σ ok s w e = answer_of Σ ok s e w.order w.is_order w.all_listed w.bindings_listed w.typed

-- what is not bound, or is bound
bound_or_not : (bs : List Binding) (m : ℕ) → Unbound bs m ⊎ ((b : Binding) × Member b bs × (m ≡ b.of))
bound_or_not [] m = inl tt
bound_or_not (b ∷ bs) m = go (decide m b.of) (bound_or_not bs m)
  where
    go : (m ≡ b.of) ⊎ (m ≡ b.of → ⊥) → Unbound bs m ⊎ ((c : Binding) × Member c bs × (m ≡ c.of)) → Unbound (b ∷ bs) m ⊎ ((c : Binding) × Member c (b ∷ bs) × (m ≡ c.of))
    go (inl e) r = inr (b, inl refl, e)
    go (inr n) (inl u) = inl (n, u)
    go (inr n) (inr (c, i, e)) = inr (c, inr i, e)

-- a metavariable is listed once
module _ (Σ : Signature) (Ψ : ℕ → Option LfType) (U : (ℕ → Option Term) → Type 0) where
  listed : (is : List ListedMetavariable) (x : ListedMetavariable) → Member x is → IsListed is x.of
  listed [] x i = absurd i
  listed (it ∷ is) x (inl e) = inl (ap (λ y. y.of) e)
  listed (it ∷ is) x (inr i) = inr (listed is x i)

  pub listed_once : (is : List ListedMetavariable) → IsDependencyOrder Σ Ψ U is → (x y : ListedMetavariable) → Member x is → Member y is → x.of ≡ y.of → x ≡ y
  listed_once [] o x y i j e = absurd i
  listed_once (it ∷ is) o x y (inl p) (inl q) e = p ∙ sym q
  listed_once (it ∷ is) o x y (inl p) (inr j) e = absurd (o.2 (subst (IsListed is) (sym e ∙ ap (λ z. z.of) p) (listed is y j)))
  listed_once (it ∷ is) o x y (inr i) (inl q) e = absurd (o.2 (subst (IsListed is) (e ∙ ap (λ z. z.of) q) (listed is x i)))
  listed_once (it ∷ is) o x y (inr i) (inr j) e = listed_once is o.0 x y i j e

pub binding_of : (bs : List Binding) (is : List ListedMetavariable) → ValuesAreBindings bs is → (it : ListedMetavariable) → Member it is → (N : Term) → it.value ≡ Some N → Member (record { of = it.of; value = N }) bs
binding_of bs [] v it i N q = absurd i
binding_of bs (x ∷ is) (u, v) it (inl e) N q = subst (λ (k : ℕ). Member (record { of = k; value = N }) bs) (sym (ap (λ y. y.of) e)) (u N (ap (λ y. y.value) (sym e) ∙ q))
binding_of bs (x ∷ is) (u, v) it (inr i) N q = binding_of bs is v it i N q

pub listed_binding : (is : List ListedMetavariable) (bs : List Binding) → BindingsAreListed is bs → (b : Binding) → Member b bs → (A : LfType) × Member (record { of = b.of; of_type = A; value = Some b.value }) is
listed_binding is [] l b i = absurd i
listed_binding is (c ∷ bs) (x, l) b (inl e) = subst (λ (y : Binding). (A : LfType) × Member (record { of = y.of; of_type = A; value = Some y.value }) is) (sym e) x
listed_binding is (c ∷ bs) (x, l) b (inr i) = listed_binding is bs l b i

-- THE theorem on well-formed stores: what unifies one and is typed at what is not bound is typed at all
pub free_values_suffice : (Σ : Signature) (ok : IsSignature Σ) (s : Store) → IsWellFormed Σ s → (F : List LfType) (β : ℕ → Option Term) → IsContext Σ F → PartialInstance Σ [] s.metavariables (Unbound s.bindings) F β → Unifies s β → Solution Σ [] s F β
free_values_suffice Σ ok s w F β context p u = (record { context = context; outer = p.outer; typed = λ m. at m (bound_or_not s.bindings m) }, u)
  where
    U : (ℕ → Option Term) → Type 0
    U = IsFilling Σ [] s

    fills : IsFilling Σ [] s β
    fills = (F, record { context = p.context; outer = p.outer; by_skeletons = p.by_skeletons; typed = λ m v. absurd v; plain_context = p.plain_context; plain_values = p.plain_values }, u)

    known : (it : ListedMetavariable) → Member it w.order → Known Σ ok s.metavariables (IsFilling Σ [] s) w.typed.declarations_typed F β fills (Unbound s.bindings) it
    known it i = go it.value refl (bound_or_not s.bindings it.of)
      where
        go : (x : Option Term) → it.value ≡ x → Unbound s.bindings it.of ⊎ ((b : Binding) × Member b s.bindings × (it.of ≡ b.of)) → Known Σ ok s.metavariables (IsFilling Σ [] s) w.typed.declarations_typed F β fills (Unbound s.bindings) it
        go (Some N) q h = inr (N, q, respects_at (skeletons_of s.metavariables) β s.bindings u.0 (record { of = it.of; value = N }) (binding_of s.bindings w.order w.values_bound it i N q))
        go None q (inl h) = inl h
        go None q (inr (b, j, e)) =
            let (A, k) = listed_binding w.order s.bindings w.bindings_listed b j in
            let same : it ≡ record { of = b.of; of_type = A; value = Some b.value } = listed_once Σ s.metavariables (IsFilling Σ [] s) w.order w.is_order it (record { of = b.of; of_type = A; value = Some b.value }) i k e in
            (let r : None ≡ Some b.value = sym q ∙ ap (λ y. y.value) same in cc)

    full : PartialInstance Σ [] s.metavariables (λ m. Unbound s.bindings m ⊎ IsListed w.order m) F β
    full = values_typed Σ ok s.metavariables (IsFilling Σ [] s) w.typed.declarations_typed F β fills (Unbound s.bindings) w.order p w.is_order known

    at : (m : ℕ) → Unbound s.bindings m ⊎ ((b : Binding) × Member b s.bindings × (m ≡ b.of)) → ValueHasType Σ F (skeletons_of s.metavariables) β (s.metavariables m) (β m)
    at m (inl h) = full.typed m (inl h)
    at m (inr (b, j, e)) =
        let (A, k) = listed_binding w.order s.bindings w.bindings_listed b j in
        full.typed m (inr (subst (IsListed w.order) (sym e) (listed Σ s.metavariables (IsFilling Σ [] s) w.order (record { of = b.of; of_type = A; value = Some b.value }) k)))

-- what is solved has a typed unifier
pub solved_unifier : (Σ : Signature) (ok : IsSignature Σ) (s s' : Store) → Solved Σ s s' → (F : List LfType) × (β : ℕ → Option Term) × Solution Σ [] s F β
solved_unifier Σ ok s s' w =
    let F : List LfType = free_context (skeletons_of s'.metavariables) w.well_formed.order in
    let (β, x, u) = w.keeps.sound F (values (skeletons_of s'.metavariables) w.well_formed.order) (well_formed_answer Σ ok s' w.well_formed w.none_left) in
    (F, β, u)

pub solved_not_never : (Σ : Signature) (ok : IsSignature Σ) (s s' : Store) → Solved Σ s s' → Never Σ [] s → ⊥
solved_not_never Σ ok s s' w n = let (F, β, u) = solved_unifier Σ ok s s' w in n F β u

-- from a store without bindings the bindings are most general
pub keeps_most_general : (Σ : Signature) (G : List LfType) (Ψ : ℕ → Option LfType) (es : List Equation) (s : Store) → KeepsUnifiers Σ G (record { metavariables = Ψ; bindings = []; equations = es }) s → MostGeneral Σ G Ψ es s
keeps_most_general Σ G Ψ es s p = record {
  sound = λ F β u. let (β₁, x, v) = p.sound F β u in (β₁, x, v.0, v.1.1);
  complete = λ F β w u. p.complete F β (w, (tt, u));
}

-- what solving answers is the child of a search
pub solved_child : (Σ : Signature) (ok : IsSignature Σ) (s s' : Store) → Solved Σ s s' → IsChild Σ s s'
solved_child Σ ok s s' w = record {
  run = w.run;
  keeps = w.keeps;
  left_over = subst (AllLeftOver s.metavariables s') (sym w.none_left) tt;
  well_formed = w.well_formed;
}

pub left_child : (Σ : Signature) (s s' : Store) → Left Σ s s' → IsChild Σ s s'
left_child Σ s s' w = record { run = w.run; keeps = w.keeps; left_over = w.all_left_over; well_formed = w.well_formed }

-- a child without equations has a typed unifier, and so has what was offered
pub child_unifier : (Σ : Signature) (ok : IsSignature Σ) (s s' : Store) → IsChild Σ s s' → s'.equations ≡ [] → (F : List LfType) × (β : ℕ → Option Term) × Solution Σ [] s F β
child_unifier Σ ok s s' w e =
    let F : List LfType = free_context (skeletons_of s'.metavariables) w.well_formed.order in
    let (β, x, u) = w.keeps.sound F (values (skeletons_of s'.metavariables) w.well_formed.order) (well_formed_answer Σ ok s' w.well_formed e) in
    (F, β, u)
