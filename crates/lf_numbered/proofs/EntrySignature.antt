-- A signature with the entries of typed blocks as constants is a signature.
use Rattle.std.proofs.Common.{◌≡◌, ℕ, zero, suc, List, [], ◌∷◌, ◌++◌, length, ◌+◌, Option, Some, None, Bool, true, false, cond, ◌<◌, ◌≤◌, ◌⊎◌, inl, inr, refl, sym, ap, ◌∙◌, subst, arith}
use Rattle.lf.specs.Syntax.{constant, variable, Term, Spine, nil, app, LfType, Kind, pi, atom, Skeleton, base, arrow, skeleton, weaken, lift_renaming, rename_spine, rename_type}
use Rattle.lf.specs.Substitution.{Image, keep, put, substitute_type, reduce}
use Rattle.lf.specs.Eta.{add_last, eta_expand, eta_long}
use Rattle.lf.specs.Typing.{Signature, TypeAt, ImageHasType, IsTypedSubstitution, HasType, SpineType, instantiate_type, IsType, IsContext, IsSignature}
use Rattle.lf.specs.Variables.{onto, same_number}
use Rattle.lf.specs.Subordination.{Block, AreTypedBlocks}
use Rattle.lf.proofs.Checker.{number_is, number_itself}
use Rattle.lf.proofs.Closed.{closed_type_renamed}
use Rattle.lf.proofs.EtaTypes.{put_back, SameForm}
use Rattle.lf.proofs.EtaTyping.{eta_expand_has_type, eta_long_has_type}
use Rattle.lf.proofs.Growth.{growth_keeps_typing, growth_keeps_types, growth_keeps_kinds}
use Rattle.lf.proofs.Substitution.{TypedSubstitution, skeleton_context_of, substitution_keeps_types}
use Rattle.lf.proofs.TypeLaws.{skeleton_renamed, skeleton_substituted, substitute_identity_type}
use Rattle.lf.proofs.Weakening.{renaming_keeps_spine_typing, weakening_renames}
use Rattle.lf_unification.specs.Offering.{pi_over, local_arguments}
use Rattle.lf_coverage.specs.OrElse.{or_else}
use Rattle.lf_coverage.proofs.GroundTyped.{front_typed}
use Rattle.lf_coverage.proofs.ItemsContext.{outer_context}
use Rattle.lf_coverage.proofs.Parts.{none_some}
use Rattle.lf_numbered.specs.EntryConstants.{EntryConstant, entry_among, entry_constant, entry_images, entry_constant_type, entry_type, with_entries}
use Rattle.lf_numbered.specs.EntryLaws.{WithEntriesIsSignature, OldTypingsStay, EarlierEntriesStay}

-- Options
pub else_kept : {A : Type 0} (x y z : Option A) (v : A) → (y ≡ Some v → z ≡ Some v) → or_else x y ≡ Some v → or_else x z ≡ Some v
else_kept None y z v h e = h e
else_kept (Some u) y z v h e = e

pub else_cases : {A : Type 0} (x y : Option A) (v : A) → or_else x y ≡ Some v → (x ≡ Some v) ⊎ (y ≡ Some v)
else_cases None y v e = inr e
else_cases (Some u) y v e = inl e

pub else_none : {A : Type 0} (x : Option A) → or_else x None ≡ x
else_none None = refl
else_none (Some u) = refl

-- what is declared without entries has its type
old_types : (Σ : Signature) → IsSignature Σ → (c : ℕ) (A : LfType) → or_else (Σ.types c) None ≡ Some A → IsType Σ [] A
old_types Σ ok c A e = at (else_cases (Σ.types c) None A e)
  where
    at : (Σ.types c ≡ Some A) ⊎ (None ≡ Some A) → IsType Σ [] A
    at (inl q) = ok.types_ok c A q
    at (inr q) = absurd (none_some q)

pub else_first : {A : Type 0} (x y : Option A) (v : A) → x ≡ Some v → or_else x y ≡ Some v
else_first x y v e = ap (λ z. or_else z y) e

pub else_second : {A : Type 0} (x y z : Option A) → x ≡ None → y ≡ z → or_else x y ≡ z
else_second x y z e f = ap (λ u. or_else u y) e ∙ f

-- Spines of all variables of a context
pub add_typed : (Σ : Signature) (G : List LfType) (S : Spine) (N : Term) (Y P Q : LfType) → SpineType Σ G S Y (pi P Q) → HasType Σ G N P → SpineType Σ G (add_last S N) Y (instantiate_type P N Q)
add_typed Σ G nil N Y P Q s n = subst (λ X. SpineType Σ G (app N nil) X (instantiate_type P N Q)) (sym s) (n, refl)
add_typed Σ G (app M S) N (pi A B) P Q (m, s) n = (m, add_typed Σ G S N (instantiate_type A M B) P Q s n)
add_typed Σ G (app M S) N (atom a T) P Q s n = absurd s

same_form : (a : Skeleton) → SameForm a a
same_form (base c) = tt
same_form (arrow a b) = (same_form a, same_form b)

pub closed_over : (Σ : Signature) (O : List LfType) (P : LfType) → IsContext Σ O → IsType Σ O P → IsType Σ [] (pi_over O P)
closed_over Σ [] P c t = t
closed_over Σ (A ∷ O) P (c, a) t = closed_over Σ O (pi A P) c (a, t)

pub locals_typed : (Σ : Signature) → IsSignature Σ → (O : List LfType) (P : LfType) → IsContext Σ O → IsType Σ O P → SpineType Σ O (local_arguments O) (pi_over O P) P
locals_typed Σ ok [] P c t = refl
locals_typed Σ ok (A ∷ O) P (c, a) t =
    let Y : LfType = pi_over O (pi A P) in
    let X : Term = eta_long (skeleton A) (variable zero) in
    let s : SpineType Σ (A ∷ O) (rename_spine suc (local_arguments O)) (weaken Y) (pi (weaken A) (rename_type (lift_renaming suc) P)) = renaming_keeps_spine_typing Σ ok O (A ∷ O) suc (local_arguments O) Y (pi A P) (weakening_renames O A) (locals_typed Σ ok O (pi A P) c (a, t)) in
    let x : HasType Σ (A ∷ O) X (weaken A) = subst (λ b. HasType Σ (A ∷ O) (eta_long b (variable zero)) (weaken A)) (skeleton_renamed suc A) (eta_long_has_type Σ ok (A ∷ O) (variable zero) (weaken A) (c, a) refl) in
    subst (λ Z. SpineType Σ (A ∷ O) (add_last (rename_spine suc (local_arguments O)) X) Z P) (closed_type_renamed Σ suc Y (closed_over Σ O (pi A P) c (a, t)))
    (subst (SpineType Σ (A ∷ O) (add_last (rename_spine suc (local_arguments O)) X) (weaken Y)) (put_back Σ ok (skeleton A) O A P t (same_form (skeleton A))) (add_typed Σ (A ∷ O) (rename_spine suc (local_arguments O)) X (weaken Y) (weaken A) (rename_type (lift_renaming suc) P) s x))

-- Signatures that grow by types of the first
module _ (Σ Σ' : Signature) (ts : (c : ℕ) (A : LfType) → Σ.types c ≡ Some A → Σ'.types c ≡ Some A) (ks : (a : ℕ) (K : Kind) → Σ.kinds a ≡ Some K → Σ'.kinds a ≡ Some K) where
  pub grown_contexts : (G : List LfType) → IsContext Σ G → IsContext Σ' G
  grown_contexts [] c = c
  grown_contexts (A ∷ G) (c, a) = (grown_contexts G c, growth_keeps_types Σ Σ' ts ks G A a)

  pub grown_image : (D : List LfType) (x : Image) (A : LfType) → ImageHasType Σ D x A → ImageHasType Σ' D x A
  grown_image D (keep j) A g = g
  grown_image D (put a N) A (e, n) = (e, growth_keeps_typing Σ Σ' ts ks D N A n)

  grown_signature : IsSignature Σ → ((c : ℕ) (A : LfType) → Σ'.types c ≡ Some A → IsType Σ [] A) → ((a : ℕ) (K : Kind) → Σ'.kinds a ≡ Some K → Σ.kinds a ≡ Some K) → IsSignature Σ'
  grown_signature ok new back = record {
    types_ok = λ c A e. growth_keeps_types Σ Σ' ts ks [] A (new c A e);
    kinds_ok = λ a K e. growth_keeps_kinds Σ Σ' ts ks [] K (ok.kinds_ok a K (back a K e));
  }

-- The constants of one block's entries have the numbers from its first one on
pub among_below : (k : ℕ) (B : Block) (n p : ℕ) (es : List LfType) (c : ℕ) (e : EntryConstant) → entry_among k B n p es c ≡ Some e → c < n + length es
among_below k B n p [] c e q = absurd (none_some q)
among_below k B n p (E ∷ es) c e q = by (among_below k B n (suc p) es c e) (same_number c (n + length es)) refl q
  where
    by : (entry_among k B n (suc p) es c ≡ Some e → c < n + length es) → (b : Bool) → same_number c (n + length es) ≡ b → cond b (Some (record { number = k; block = B; from = n; place = p; entry = E; before = es })) (entry_among k B n (suc p) es c) ≡ Some e → c < n + suc (length es)
    by ih true s q = let i = number_is c (n + length es) s in omega arith
    by ih false s q = let i = ih q in omega arith

pub among_from : (k : ℕ) (B : Block) (n p : ℕ) (es : List LfType) (c : ℕ) (e : EntryConstant) → entry_among k B n p es c ≡ Some e → n ≤ c
among_from k B n p [] c e q = absurd (none_some q)
among_from k B n p (E ∷ es) c e q = by (among_from k B n (suc p) es c e) (same_number c (n + length es)) refl q
  where
    by : (entry_among k B n (suc p) es c ≡ Some e → n ≤ c) → (b : Bool) → same_number c (n + length es) ≡ b → cond b (Some (record { number = k; block = B; from = n; place = p; entry = E; before = es })) (entry_among k B n (suc p) es c) ≡ Some e → n ≤ c
    by ih true s q = let i = number_is c (n + length es) s in omega arith
    by ih false s q = ih q

pub not_same : (i j : ℕ) → (i ≡ j → ⊥) → same_number i j ≡ false
not_same i j h = by (same_number i j) refl
  where
    by : (b : Bool) → same_number i j ≡ b → same_number i j ≡ false
    by true e = absurd (h (number_is i j e))
    by false e = e

pub among_none : (k : ℕ) (B : Block) (n p : ℕ) (es : List LfType) (c : ℕ) → n + length es ≤ c → entry_among k B n p es c ≡ None
among_none k B n p es c h = by (entry_among k B n p es c) refl
  where
    by : (x : Option EntryConstant) → entry_among k B n p es c ≡ x → entry_among k B n p es c ≡ None
    by None e = e
    by (Some x) e = let l = among_below k B n p es c x e in absurd (omega arith)

-- The signature with these entries of a block
abbrev pub partial : Signature → ℕ → Block → ℕ → ℕ → List LfType → Signature
partial Σ k B n p es = record { types = λ c. or_else (Σ.types c) (entry_type (entry_among k B n p es c)); kinds = Σ.kinds }

module _ (Σ : Signature) (ok : IsSignature Σ) (k : ℕ) (B : Block) (n : ℕ) (free : (c : ℕ) → n ≤ c → Σ.types c ≡ None) where
  old_kept : (p : ℕ) (es : List LfType) (c : ℕ) (A : LfType) → Σ.types c ≡ Some A → (partial Σ k B n p es).types c ≡ Some A
  old_kept p es c A e = else_first (Σ.types c) (entry_type (entry_among k B n p es c)) A e

  type_below : (p : ℕ) (es : List LfType) (c : ℕ) (A : LfType) (x : Option EntryConstant) → entry_among k B n p es c ≡ x → entry_type x ≡ Some A → c < n + length es
  type_below p es c A None e q = absurd (none_some q)
  type_below p es c A (Some x) e q = among_below k B n p es c x e

  next_kept : (p : ℕ) (E : LfType) (es : List LfType) (c : ℕ) (A : LfType) → (partial Σ k B n (suc p) es).types c ≡ Some A → (partial Σ k B n p (E ∷ es)).types c ≡ Some A
  next_kept p E es c A e = else_kept (Σ.types c) (entry_type (entry_among k B n (suc p) es c)) (entry_type (entry_among k B n p (E ∷ es) c)) A by e
    where
      by : entry_type (entry_among k B n (suc p) es c) ≡ Some A → entry_type (entry_among k B n p (E ∷ es) c) ≡ Some A
      by q =
          let l : c < n + length es = type_below (suc p) es c A (entry_among k B n (suc p) es c) refl q in
          ap (λ b. entry_type (cond b (Some (record { number = k; block = B; from = n; place = p; entry = E; before = es })) (entry_among k B n (suc p) es c))) (not_same c (n + length es) (λ i. omega arith)) ∙ q

  next_new : (p : ℕ) (E : LfType) (es : List LfType) (c : ℕ) (A : LfType) → (partial Σ k B n p (E ∷ es)).types c ≡ Some A → ((partial Σ k B n (suc p) es).types c ≡ Some A) ⊎ (A ≡ entry_constant_type n B.some es E)
  next_new p E es c A e = at (else_cases (Σ.types c) (entry_type (entry_among k B n p (E ∷ es) c)) A e)
    where
      f : EntryConstant
      f = record { number = k; block = B; from = n; place = p; entry = E; before = es }

      older : (b : Bool) (x : Option EntryConstant) → same_number c (n + length es) ≡ b → entry_among k B n (suc p) es c ≡ x → entry_type (cond b (Some f) x) ≡ Some A → ((partial Σ k B n (suc p) es).types c ≡ Some A) ⊎ (A ≡ entry_constant_type n B.some es E)
      older true x s i q = inr (cc)
      older false None s i q = absurd (none_some q)
      older false (Some x) s i q = inl (else_second (Σ.types c) (entry_type (entry_among k B n (suc p) es c)) (Some A) (free c (among_from k B n (suc p) es c x i)) (ap entry_type i ∙ q))

      at : (Σ.types c ≡ Some A) ⊎ (entry_type (entry_among k B n p (E ∷ es) c) ≡ Some A) → ((partial Σ k B n (suc p) es).types c ≡ Some A) ⊎ (A ≡ entry_constant_type n B.some es E)
      at (inl q) = inl (old_kept (suc p) es c A q)
      at (inr q) = older (same_number c (n + length es)) (entry_among k B n (suc p) es c) refl refl q

  here : (p : ℕ) (E : LfType) (es : List LfType) → (partial Σ k B n p (E ∷ es)).types (n + length es) ≡ Some (entry_constant_type n B.some es E)
  here p E es = else_second (Σ.types (n + length es)) (entry_type (entry_among k B n p (E ∷ es) (n + length es))) (Some (entry_constant_type n B.some es E)) (free (n + length es) (omega arith)) (ap (λ b. entry_type (cond b (Some (record { number = k; block = B; from = n; place = p; entry = E; before = es })) (entry_among k B n (suc p) es (n + length es)))) (number_itself (n + length es)))

  -- It is one, and the constants are typed values of the entries
  pub block_signature : (p : ℕ) (es : List LfType) → IsContext Σ (onto es B.some) → IsSignature (partial Σ k B n p es) × IsTypedSubstitution (partial Σ k B n p es) (onto es B.some) B.some (entry_images n (local_arguments B.some) es keep)
  block_signature p [] c = (
    grown_signature Σ (partial Σ k B n p []) (old_kept p []) (λ a K e. e) ok (old_types Σ ok) (λ a K e. e),
    λ i A g. subst (TypeAt B.some i) (sym (substitute_identity_type reduce A)) g,
  )
  block_signature p (E ∷ es) (c, t) =
      let O : List LfType = B.some in
      let ι : ℕ → Image = entry_images n (local_arguments O) es keep in
      let Σ₁ : Signature = partial Σ k B n (suc p) es in
      let Σ₂ : Signature = partial Σ k B n p (E ∷ es) in
      let T : LfType = substitute_type reduce ι E in
      let (ok₁, s) = block_signature (suc p) es c in
      let c₁ : IsContext Σ₁ (onto es O) = grown_contexts Σ Σ₁ (old_kept (suc p) es) (λ a K e. e) (onto es O) c in
      let o : IsContext Σ O = outer_context Σ es O c in
      let o₁ : IsContext Σ₁ O = grown_contexts Σ Σ₁ (old_kept (suc p) es) (λ a K e. e) O o in
      let o₂ : IsContext Σ₂ O = grown_contexts Σ Σ₂ (old_kept p (E ∷ es)) (λ a K e. e) O o in
      let w : TypedSubstitution Σ₁ ok₁ (onto es O) O ι = record { typed = s; source_skeletons = skeleton_context_of Σ₁ ok₁ (onto es O) c₁; target_skeletons = skeleton_context_of Σ₁ ok₁ O o₁ } in
      let t₁ : IsType Σ₁ O T = substitution_keeps_types Σ₁ ok₁ (onto es O) O ι E w (growth_keeps_types Σ Σ₁ (old_kept (suc p) es) (λ a K e. e) (onto es O) E t) in
      let ok₂ : IsSignature Σ₂ = grown_signature Σ₁ Σ₂ (next_kept p E es) (λ a K e. e) ok₁ (new ok₁ o₁ t₁) (λ a K e. e) in
      let t₂ : IsType Σ₂ O T = growth_keeps_types Σ₁ Σ₂ (next_kept p E es) (λ a K e. e) O T t₁ in
      let N : Term = eta_expand (skeleton E) (constant (n + length es)) (local_arguments O) in
      let m : HasType Σ₂ O N T = eta_expand_has_type Σ₂ ok₂ (skeleton E) O (constant (n + length es)) (local_arguments O) (pi_over O T) T o₂ (skeleton_substituted reduce ι E) t₂ (here p E es) (locals_typed Σ₂ ok₂ O T o₂ t₂) in
      (ok₂, front_typed Σ₂ ok₂ [] (λ C i. absurd i) (onto es O) O E (put (skeleton E) N) ι (λ i A g. grown_image Σ₁ Σ₂ (next_kept p E es) (λ a K e. e) O (ι i) (substitute_type reduce ι A) (s i A g)) (skeleton_substituted reduce ι E, m))
    where
      new : IsSignature (partial Σ k B n (suc p) es) → IsContext (partial Σ k B n (suc p) es) B.some → IsType (partial Σ k B n (suc p) es) B.some (substitute_type reduce (entry_images n (local_arguments B.some) es keep) E) → (c : ℕ) (A : LfType) → (partial Σ k B n p (E ∷ es)).types c ≡ Some A → IsType (partial Σ k B n (suc p) es) [] A
      new ok₁ o₁ t₁ c A e = at (next_new p E es c A e)
        where
          at : ((partial Σ k B n (suc p) es).types c ≡ Some A) ⊎ (A ≡ entry_constant_type n B.some es E) → IsType (partial Σ k B n (suc p) es) [] A
          at (inl q) = ok₁.types_ok c A q
          at (inr q) = subst (IsType (partial Σ k B n (suc p) es) []) (sym q) (closed_over (partial Σ k B n (suc p) es) B.some (substitute_type reduce (entry_images n (local_arguments B.some) es keep) E) o₁ t₁)

-- Block after block
abbrev from_number : Signature → ℕ → ℕ → List Block → Signature
from_number Σ k n Bs = record { types = λ c. or_else (Σ.types c) (entry_type (entry_constant k n Bs c)); kinds = Σ.kinds }

else_twice : (x : Option LfType) (a b : Option EntryConstant) → or_else (or_else x (entry_type a)) (entry_type b) ≡ or_else x (entry_type (or_else a b))
else_twice (Some A) a b = refl
else_twice None None b = refl
else_twice None (Some e) b = refl

pub blocks_signature : (Σ : Signature) → IsSignature Σ → (k n : ℕ) → ((c : ℕ) → n ≤ c → Σ.types c ≡ None) → (Bs : List Block) → AreTypedBlocks Σ Bs → IsSignature (from_number Σ k n Bs)
blocks_signature Σ ok k n free [] typed = grown_signature Σ (from_number Σ k n []) (λ c A e. else_first (Σ.types c) None A e) (λ a K e. e) ok (old_types Σ ok) (λ a K e. e)
blocks_signature Σ ok k n free (B ∷ Bs) typed =
    let Σ₁ : Signature = partial Σ k B n zero B.entries in
    let kept : (c : ℕ) (A : LfType) → Σ.types c ≡ Some A → Σ₁.types c ≡ Some A = old_kept Σ ok k B n free zero B.entries in
    let ok₁ : IsSignature Σ₁ = (block_signature Σ ok k B n free zero B.entries (typed B (inl refl))).0 in
    let Σ₂ : Signature = from_number Σ₁ (suc k) (n + length B.entries) Bs in
    let ok₂ : IsSignature Σ₂ = blocks_signature Σ₁ ok₁ (suc k) (n + length B.entries) (λ c h. else_second (Σ.types c) (entry_type (entry_among k B n zero B.entries c)) None (free c (omega (arith, h))) (ap entry_type (among_none k B n zero B.entries c h))) Bs (λ C i. grown_contexts Σ Σ₁ kept (λ a K e. e) (onto C.entries C.some) (typed C (inr i))) in
    grown_signature Σ₂ (from_number Σ k n (B ∷ Bs)) (λ c A e. sym (same c) ∙ e) (λ a K e. e) ok₂ (λ c A e. ok₂.types_ok c A (same c ∙ e)) (λ a K e. e)
  where
    same : (c : ℕ) → or_else (or_else (Σ.types c) (entry_type (entry_among k B n zero B.entries c))) (entry_type (entry_constant (suc k) (n + length B.entries) Bs c)) ≡ or_else (Σ.types c) (entry_type (entry_constant k n (B ∷ Bs) c))
    same c = else_twice (Σ.types c) (entry_among k B n zero B.entries c) (entry_constant (suc k) (n + length B.entries) Bs c)

pub with_entries_is_signature : WithEntriesIsSignature
with_entries_is_signature Σ ok first free Bs typed = blocks_signature Σ ok zero first free.types_free Bs typed

pub entries_kept : (Σ : Signature) (first : ℕ) (Bs : List Block) (c : ℕ) (A : LfType) → Σ.types c ≡ Some A → (with_entries Σ first Bs).types c ≡ Some A
entries_kept Σ first Bs c A e = else_first (Σ.types c) (entry_type (entry_constant zero first Bs c)) A e

pub old_typings_stay : OldTypingsStay
old_typings_stay Σ first Bs G = (
  λ M A m. growth_keeps_typing Σ (with_entries Σ first Bs) (entries_kept Σ first Bs) (λ a K e. e) G M A m,
  λ A t. growth_keeps_types Σ (with_entries Σ first Bs) (entries_kept Σ first Bs) (λ a K e. e) G A t,
)

-- Further blocks behind
pub behind_kept : (k n : ℕ) (Bs Cs : List Block) (c : ℕ) (e : EntryConstant) → entry_constant k n Bs c ≡ Some e → entry_constant k n (Bs ++ Cs) c ≡ Some e
behind_kept k n [] Cs c e q = absurd (none_some q)
behind_kept k n (B ∷ Bs) Cs c e q = else_kept (entry_among k B n zero B.entries c) (entry_constant (suc k) (n + length B.entries) Bs c) (entry_constant (suc k) (n + length B.entries) (Bs ++ Cs) c) e (behind_kept (suc k) (n + length B.entries) Bs Cs c e) q

behind_type : (k n : ℕ) (Bs Cs : List Block) (c : ℕ) (A : LfType) (x : Option EntryConstant) → entry_constant k n Bs c ≡ x → entry_type x ≡ Some A → entry_type (entry_constant k n (Bs ++ Cs) c) ≡ Some A
behind_type k n Bs Cs c A None e q = absurd (none_some q)
behind_type k n Bs Cs c A (Some x) e q = ap entry_type (behind_kept k n Bs Cs c x e) ∙ q

pub earlier_kept : (Σ : Signature) (first : ℕ) (Bs Cs : List Block) (c : ℕ) (A : LfType) → (with_entries Σ first Bs).types c ≡ Some A → (with_entries Σ first (Bs ++ Cs)).types c ≡ Some A
earlier_kept Σ first Bs Cs c A e = else_kept (Σ.types c) (entry_type (entry_constant zero first Bs c)) (entry_type (entry_constant zero first (Bs ++ Cs) c)) A (behind_type zero first Bs Cs c A (entry_constant zero first Bs c) refl) e

pub earlier_entries_stay : EarlierEntriesStay
earlier_entries_stay Σ first Bs Cs G = (
  λ M A m. growth_keeps_typing (with_entries Σ first Bs) (with_entries Σ first (Bs ++ Cs)) (earlier_kept Σ first Bs Cs) (λ a K e. e) G M A m,
  λ A t. growth_keeps_types (with_entries Σ first Bs) (with_entries Σ first (Bs ++ Cs)) (earlier_kept Σ first Bs Cs) (λ a K e. e) G A t,
)
