-- The heads that are left at the outset are those of all heads that are offered to a goal.
use Rattle.std.proofs.Common.{◌≡◌, ℕ, zero, suc, ◌+◌, ◌<◌, List, [], ◌∷◌, ◌++◌, Bool, true, false, cond, length, Some, refl, sym, ap, ◌∙◌, subst, arith}
use Rattle.std.specs.List.{slice_get}
use Rattle.lf.specs.Constants.{constants_of, family_of, is_family}
use Rattle.lf.specs.Entries.{Body, Entry, declare_constant, declare_definition, declare_family, entry, signature_of, type_of, type_of_body}
use Rattle.lf.specs.Syntax.{Head, LfType, atom, constant, pi, skeleton, variable, weaken}
use Rattle.lf.specs.Typing.{Signature, TypeAt}
use Rattle.lf.specs.Variables.{onto, same_number, target}
use Rattle.lf.proofs.Checker.{number_is, number_itself}
use Rattle.lf.proofs.Target.{target_renamed}
use Rattle.lf_unification.specs.Lists.{followed}
use Rattle.lf_unification.specs.Patterns.{skeleton_target}
use Rattle.lf_unification.specs.Search.{OfferedHeadHasType, add_constant, constant_heads, declared_constants, local_heads, tried_heads}
use Rattle.lf_search.specs.Heads.{AreOffered, is_offered, none_offered, not_offered}
use Rattle.tw_search.specs.Choosing.{constants_left, heads_left, locals_for}
use Rattle.tw_search.proofs.Offered.{one_type}

target_of_skeleton : (A : LfType) → skeleton_target (skeleton A) ≡ target A
target_of_skeleton (pi A B) = target_of_skeleton B
target_of_skeleton (atom a S) = refl

onto_nothing : (D : List LfType) → onto D [] ≡ D
onto_nothing [] = refl
onto_nothing (A ∷ D) = ap (λ l. A ∷ l) (onto_nothing D)

-- a variable has a type of the same target
type_of_local : (G : List LfType) (i : ℕ) (B : LfType) → slice_get G i ≡ Some B → (A : LfType) × TypeAt G i A × (target A ≡ target B)
type_of_local [] i B e = absurd cc
type_of_local (C ∷ G) zero B e = (weaken C, refl, target_renamed suc C ∙ (let p : C ≡ B = cc in ap target p))
type_of_local (C ∷ G) (suc i) B e = let (A, t, q) = type_of_local G i B e in (weaken A, (A, t, refl), target_renamed suc A ∙ q)

module _ (Σ : Signature) (D : List LfType) (a : ℕ) where
  one_head : (h : Head) (A : LfType) (b : Bool) → OfferedHeadHasType Σ D h A → same_number (target A) a ≡ b → (hs ks : List Head) → AreOffered Σ D a hs ks → AreOffered Σ D a (h ∷ hs) (cond b (h ∷ ks) ks)
  one_head h A true t e hs ks o = is_offered A t (target_of_skeleton A ∙ number_is (target A) a e) o
  one_head h A false t e hs ks o = not_offered other o
    where
      other : (B : LfType) → OfferedHeadHasType Σ D h B → skeleton_target (skeleton B) ≡ a → ⊥
      other B u q =
          let s : target A ≡ a = sym (target_of_skeleton A) ∙ ap (λ X. skeleton_target (skeleton X)) (one_type Σ D h A B t u) ∙ q in
          let f : true ≡ false = sym (ap (λ n. same_number n a) s ∙ number_itself a) ∙ e in
          absurd cc

  locals_offered : (E : List LfType) (i : ℕ) → ((k : ℕ) (B : LfType) → slice_get E k ≡ Some B → slice_get D (i + k) ≡ Some B) → (hs ks : List Head) → AreOffered Σ D a hs ks → AreOffered Σ D a (followed (local_heads i E) hs) (followed (locals_for a i E) ks)
  locals_offered [] i w hs ks o = o
  locals_offered (B ∷ E) i w hs ks o =
      let z : i + 0 ≡ i = omega arith in
      let (A, t, q) = type_of_local D i B (ap (slice_get D) (sym z) ∙ w 0 B refl) in
      let typed : TypeAt (onto D []) i A = subst (λ G. TypeAt G i A) (sym (onto_nothing D)) t in
      let r = one_head (variable i) A (same_number (target A) a) typed refl (followed (local_heads (suc i) E) hs) (followed (locals_for a (suc i) E) ks) (locals_offered E (suc i) later hs ks o) in
      subst (AreOffered Σ D a (variable i ∷ followed (local_heads (suc i) E) hs)) (by (same_number (target A) a) ∙ ap (λ n. followed (cond (same_number n a) (variable i ∷ locals_for a (suc i) E) (locals_for a (suc i) E)) ks) q) r
    where
      later : (k : ℕ) (C : LfType) → slice_get E k ≡ Some C → slice_get D (suc i + k) ≡ Some C
      later k C e = let n : suc i + k ≡ i + suc k = omega arith in ap (slice_get D) n ∙ w (suc k) C e

      by : (b : Bool) → cond b (variable i ∷ followed (locals_for a (suc i) E) ks) (followed (locals_for a (suc i) E) ks) ≡ followed (cond b (variable i ∷ locals_for a (suc i) E) (locals_for a (suc i) E)) ks
      by true = refl
      by false = refl

  both_offered : {hs ks : List Head} (hs' ks' : List Head) → AreOffered Σ D a hs ks → AreOffered Σ D a hs' ks' → AreOffered Σ D a (followed hs hs') (followed ks ks')
  both_offered hs' ks' none_offered p = p
  both_offered hs' ks' (not_offered n o) p = not_offered n (both_offered hs' ks' o p)
  both_offered hs' ks' (is_offered A t e o) p = is_offered A t e (both_offered hs' ks' o p)

heads_behind : (cs ds : List ℕ) → constant_heads (followed cs ds) ≡ followed (constant_heads cs) (constant_heads ds)
heads_behind [] ds = refl
heads_behind (c ∷ cs) ds = ap (λ l. constant c ∷ l) (heads_behind cs ds)

heads_appended : (cs ds : List ℕ) → constant_heads (cs ++ ds) ≡ followed (constant_heads cs) (constant_heads ds)
heads_appended [] ds = refl
heads_appended (c ∷ cs) ds = ap (λ l. constant c ∷ l) (heads_appended cs ds)

followed_none : (hs : List Head) → followed hs [] ≡ hs
followed_none [] = refl
followed_none (h ∷ hs) = ap (λ l. h ∷ l) (followed_none hs)

module _ (Σ : Signature) (D : List LfType) (a : ℕ) where
  one_body : (b : Body) (n : ℕ) → Σ.types n ≡ type_of_body b → (cs ks : List ℕ) → AreOffered Σ D a (constant_heads cs) (constant_heads ks) → AreOffered Σ D a (constant_heads (add_constant b n cs)) (constant_heads (cond (is_family (family_of b) a) (ks ++ n ∷ []) ks))
  one_body (declare_family K) n e cs ks o = o
  one_body (declare_definition M A b) n e cs ks o = o
  one_body (declare_constant A) n e cs ks o =
      let r = both_offered Σ D a (constant n ∷ []) (cond (same_number (target A) a) (constant n ∷ []) []) o (one_head Σ D a (constant n) A (same_number (target A) a) e refl [] [] none_offered) in
      subst (λ l. AreOffered Σ D a l (constant_heads (cond (same_number (target A) a) (ks ++ n ∷ []) ks))) (sym (heads_behind cs (n ∷ []))) (subst (AreOffered Σ D a (followed (constant_heads cs) (constant n ∷ []))) (by (same_number (target A) a)) r)
    where
      by : (b : Bool) → followed (constant_heads ks) (cond b (constant n ∷ []) []) ≡ constant_heads (cond b (ks ++ n ∷ []) ks)
      by true = sym (heads_appended ks (n ∷ []))
      by false = followed_none (constant_heads ks)

  constants_offered : (es : List Entry) → ((c : ℕ) → c < length es → Σ.types c ≡ type_of (entry es c)) → AreOffered Σ D a (constant_heads (declared_constants es)) (constant_heads (constants_of es a))
  constants_offered [] w = none_offered
  constants_offered (e ∷ es) w = one_body e.body (length es) newest (declared_constants es) (constants_of es a) (constants_offered es older)
    where
      newest : Σ.types (length es) ≡ type_of_body e.body
      newest = w (length es) (omega arith) ∙ ap (λ b. type_of (cond b (Some e) (entry es (length es)))) (number_itself (length es))

      not_newest : (c : ℕ) → c < length es → (b : Bool) → same_number c (length es) ≡ b → b ≡ false
      not_newest c h true q = let p : c ≡ length es = number_is c (length es) q in absurd (omega (arith, h, p))
      not_newest c h false q = refl

      older : (c : ℕ) → c < length es → Σ.types c ≡ type_of (entry es c)
      older c h = w c (omega (arith, h)) ∙ ap (λ b. type_of (cond b (Some e) (entry es c))) (not_newest c h (same_number c (length es)) refl)

-- at the outset
pub all_offered : (es : List Entry) (D : List LfType) (a i k : ℕ) → i ≡ 0 → k ≡ 0 → AreOffered (signature_of es) D a (tried_heads D (declared_constants es)) (heads_left es a D i k)
all_offered es D a i k p q =
    subst (λ x. AreOffered (signature_of es) D a (tried_heads D (declared_constants es)) (heads_left es a D x k)) (sym p)
    (subst (λ x. AreOffered (signature_of es) D a (tried_heads D (declared_constants es)) (heads_left es a D 0 x)) (sym q)
    (locals_offered (signature_of es) D a D 0 (λ j B e. (let n : 0 + j ≡ j = omega arith in ap (slice_get D) n ∙ e)) (constant_heads (declared_constants es)) (constants_left es a 0) (constants_offered (signature_of es) D a es (λ c h. refl))))
