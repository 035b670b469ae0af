-- Where equal calls lead, one call after the other.
use Rattle.std.proofs.Common.{◌≡◌, ℕ, ◌+◌, ◌<◌, ◌≤◌, List, [], ◌∷◌, ◌++◌, Bool, Some, length, get_or, take, refl, sym, ap, ap₂, ◌∙◌, subst, inl, inr}
use Rattle.std.specs.Prelude.{slice_get, ◌⊎◌, ◌↔◌, Decides}
use Rattle.std.specs.List.{remove}
use Rattle.lf.specs.Subordination.{Member}
use Rattle.tw_order.specs.Leading.{HasEdge, IsDue, Leads, arrived, by_call, edge}
use Rattle.tw_order.specs.declared.leading.Edge.{Edge}
use Rattle.tw_order.proofs.Deciding.{decided_as}
use Rattle.tw_order.proofs.Lists.{at_push, before_push, found_at, get_member, kept, member_at, pushed, removed, taken_get, taken_whole}

pub edge_same : (e : Edge) (a b : ℕ) → e.caller ≡ a → e.callee ≡ b → edge a b ≡ e
edge_same e a b p q = sym (ap₂ edge p q)

pub edge_pushed : (old new : List Edge) (caller callee a b : ℕ) → new ≡ old ++ edge caller callee ∷ [] → HasEdge new a b ↔ (HasEdge old a b ⊎ ((caller ≡ a) × (callee ≡ b)))
edge_pushed old new caller callee a b e = (forth, back)
  where
    forth : HasEdge new a b → HasEdge old a b ⊎ ((caller ≡ a) × (callee ≡ b))
    forth m = elim (pushed old (edge caller callee) (edge a b) (subst (Member (edge a b)) e m)) [ inl n ↦ inl n | inr q ↦ inr (ap (λ x. x.caller) (sym q), ap (λ x. x.callee) (sym q)) ]

    back : HasEdge old a b ⊎ ((caller ≡ a) × (callee ≡ b)) → HasEdge new a b
    back (inl m) = subst (Member (edge a b)) (sym e) (before_push old (edge caller callee) (edge a b) m)
    back (inr (p, q)) = subst (Member (edge a b)) (sym e) (subst (λ x. Member x (old ++ edge caller callee ∷ [])) (ap₂ edge p q) (at_push old (edge caller callee)))

pub edge_there : (edges : List Edge) (caller callee a b : ℕ) → HasEdge edges caller callee → HasEdge edges a b ↔ (HasEdge edges a b ⊎ ((caller ≡ a) × (callee ≡ b)))
edge_there edges caller callee a b h = ((λ m. inl m), back)
  where
    back : HasEdge edges a b ⊎ ((caller ≡ a) × (callee ≡ b)) → HasEdge edges a b
    back (inl m) = m
    back (inr (p, q)) = subst (λ x. Member x edges) (ap₂ edge p q) h

module _ (edges : List Edge) (from : ℕ) where
  -- What is reached, and the calls that are left: each other call leads to what is reached.
  pub record SoFar (reached : List ℕ) (left : List Edge) : Type 0 where
    pub start : Member from reached
    pub led : (x : ℕ) → Member x reached → Leads edges from x
    pub some : (e : Edge) → Member e left → Member e edges
    pub used : (e : Edge) → Member e edges → Member e left ⊎ Member e.callee reached

  pub begun : (reached : List ℕ) (left : List Edge) → reached ≡ [] ++ from ∷ [] → left ≡ edges → SoFar reached left
  begun reached left r l = subst (λ xs. SoFar xs left) (sym r) (subst (SoFar (from ∷ [])) (sym l) (record {
    start = inl refl;
    led = λ x m. elim m [ inl q ↦ subst (Leads edges from) (sym q) arrived | inr n ↦ absurd n ];
    some = λ e m. m;
    used = λ e m. inl m;
  }))

  lead_on : (a b c : ℕ) → Leads edges a b → HasEdge edges b c → Leads edges a c
  lead_on a b c arrived h = by_call h arrived
  lead_on a b c (by_call {b = d} g k) h = by_call g (lead_on d b c k h)

  pub gone_on : (reached reached' : List ℕ) (left left' : List Edge) (k : ℕ) (x e : Edge) → k < length left → x ≡ get_or left k x → slice_get left k ≡ Some e → Member e.caller reached → left' ≡ remove left k → reached' ≡ reached ++ x.callee ∷ [] → SoFar reached left → SoFar reached' left'
  gone_on reached reached' left left' k x e h g f m l r s = subst (λ xs. SoFar xs left') (sym r) (subst (SoFar (reached ++ x.callee ∷ [])) (sym l) (record {
    start = before_push reached x.callee from s.start;
    led = λ y n. elim (pushed reached x.callee y n) [ inl o ↦ s.led y o | inr q ↦ subst (Leads edges from) (sym q) (lead_on from x.caller x.callee (s.led x.caller caller) (s.some x there)) ];
    some = λ y n. s.some y (kept left k y n);
    used = λ y n. used y (s.used y n);
  }))
    where
      one : {X : Type 0} {a b : X} → Some a ≡ Some b → a ≡ b
      one q = cc

      same : x ≡ e
      same = one (sym (found_at left k x h g) ∙ f)

      caller : Member x.caller reached
      caller = subst (λ y. Member y.caller reached) (sym same) m

      there : Member x left
      there = member_at left k x h g

      used : (y : Edge) → Member y left ⊎ Member y.callee reached → Member y (remove left k) ⊎ Member y.callee (reached ++ x.callee ∷ [])
      used y (inl n) = elim (removed left k x y h g n) [ inl q ↦ inr (subst (λ z. Member z.callee (reached ++ x.callee ∷ [])) (sym q) (at_push reached x.callee)) | inr o ↦ inl o ]
      used y (inr n) = inr (before_push reached x.callee y.callee n)

  -- the same as the loop has it
  pub gone_on_at : (reached reached' : List ℕ) (left left' seen : List Edge) (known : List ℕ) (k : ℕ) (x : Edge) → seen ≡ left → known ≡ reached → (k < length seen) × ((e : Edge) × (slice_get seen k ≡ Some e) × Member e.caller known) → x ≡ get_or left k x → left' ≡ remove left k → reached' ≡ reached ++ x.callee ∷ [] → SoFar reached left → SoFar reached' left'
  gone_on_at reached reached' left left' seen known k x s r (h, (e, f, m)) g l q y = gone_on reached reached' left left' k x e (subst (λ xs. k < length xs) s h) g (subst (λ xs. slice_get xs k ≡ Some e) s f) (subst (Member e.caller) r m) l q y

  pub done : (reached : List ℕ) (left : List Edge) (to : ℕ) (b : Bool) → SoFar reached left → ((e : Edge) → IsDue left reached e → ⊥) → Decides b (Member to reached) → Decides b (Leads edges from to)
  done reached left to b s n d = decided_as b (s.led to) (λ l. closed from to l s.start) d
    where
      closed : (x y : ℕ) → Leads edges x y → Member x reached → Member y reached
      closed x y arrived m = m
      closed x y (by_call {b = z} h k) m = elim (s.used (edge x z) h) [ inl o ↦ absurd (n (edge x z) (o, m)) | inr o ↦ closed z y k o ]

-- Loops over calls and numbers.
module _ (edges : List Edge) (k a b : ℕ) (d : Edge) (h : k < length edges) where
  pub edge_found : (get_or edges k d).caller ≡ a → (get_or edges k d).callee ≡ b → HasEdge edges a b
  edge_found p q = subst (λ x. Member x edges) (sym (edge_same (get_or edges k d) a b p q)) (get_member edges k d h)

  pub edge_passed : (HasEdge (take k edges) a b → ⊥) → ((get_or edges k d).caller ≡ a → ⊥) ⊎ ((get_or edges k d).callee ≡ b → ⊥) → HasEdge (take (k + 1) edges) a b → ⊥
  edge_passed n x m = elim (taken_get edges k d (edge a b) h m) [ inl o ↦ n o | inr q ↦ apart x q ]
    where
      apart : ((get_or edges k d).caller ≡ a → ⊥) ⊎ ((get_or edges k d).callee ≡ b → ⊥) → edge a b ≡ get_or edges k d → ⊥
      apart (inl y) q = y (ap (λ e. e.caller) (sym q))
      apart (inr y) q = y (ap (λ e. e.callee) (sym q))

module _ (numbers : List ℕ) (k n : ℕ) (d : ℕ) (h : k < length numbers) where
  pub number_found : get_or numbers k d ≡ n → Member n numbers
  number_found e = subst (λ x. Member x numbers) e (get_member numbers k d h)

  pub number_passed : (Member n (take k numbers) → ⊥) → (get_or numbers k d ≡ n → ⊥) → Member n (take (k + 1) numbers) → ⊥
  number_passed x y m = elim (taken_get numbers k d n h m) [ inl o ↦ x o | inr q ↦ y (sym q) ]

pub due_passed : (left : List Edge) (reached : List ℕ) (k : ℕ) (d : Edge) → k < length left → ((e : Edge) → IsDue (take k left) reached e → ⊥) → (Member (get_or left k d).caller reached → ⊥) → (e : Edge) → IsDue (take (k + 1) left) reached e → ⊥
due_passed left reached k d h n x e (m, r) = elim (taken_get left k d e h m) [ inl o ↦ n e (o, r) | inr q ↦ x (subst (λ y. Member y.caller reached) q r) ]

pub none_due : (left : List Edge) (reached : List ℕ) (k : ℕ) → length left ≤ k → ((e : Edge) → IsDue (take k left) reached e → ⊥) → (e : Edge) → IsDue left reached e → ⊥
none_due left reached k h n e (m, r) = n e (taken_whole left k e h m, r)
