-- Canonical LF as a test, so that an example signature is decided by computation.
use Rattle.std.proofs.Common.{◌≡◌, ℕ, zero, suc, ◌≤◌, List, [], ◌∷◌, length, Bool, true, false, refl, sym, ◌∙◌, subst, true≢false, arith}
use Rattle.lf.specs.Syntax.{LfType, Kind, kind_pi, star}
use Rattle.lf.specs.Depth.{depth, type_depth, kind_depth, depth_limit}
use Rattle.lf.specs.Variables.{same_number}
use Rattle.lf.specs.Typing.{Signature, IsKind}
use Rattle.lf.specs.Entries.{Entry, Body, declare_family, declare_constant, declare_definition, signature_of, body_quantifiers, BodyIsTyped, BodyIsWithin, IsCanonicalEntry, IsCanonicalSignature}
use Rattle.lf.proofs.Checker.{both, both_left, both_right, both_of, number_is, number_itself, check, check_type, check_sound, check_complete, check_type_sound, check_type_complete}

abbrev pub at_most : ℕ → ℕ → Bool
at_most zero n = true
at_most (suc m) zero = false
at_most (suc m) (suc n) = at_most m n

at_most_sound : (m n : ℕ) → at_most m n ≡ true → m ≤ n
at_most_sound zero n e = omega arith
at_most_sound (suc m) zero e = absurd (true≢false (sym e))
at_most_sound (suc m) (suc n) e = let l = at_most_sound m n e in omega arith

at_most_complete : (m n : ℕ) → m ≤ n → at_most m n ≡ true
at_most_complete zero n l = refl
at_most_complete (suc m) zero l = absurd (omega arith)
at_most_complete (suc m) (suc n) l = let k : m ≤ n = omega arith in at_most_complete m n k

abbrev pub check_kind : Signature → List LfType → Kind → Bool
check_kind Σ G (kind_pi A K) = both (check_type Σ G A) (check_kind Σ (A ∷ G) K)
check_kind Σ G star = true

check_kind_sound : (Σ : Signature) (G : List LfType) (K : Kind) → check_kind Σ G K ≡ true → IsKind Σ G K
check_kind_sound Σ G (kind_pi A K) e = (check_type_sound Σ G A (both_left _ _ e), check_kind_sound Σ (A ∷ G) K (both_right (check_type Σ G A) _ e))
check_kind_sound Σ G star e = tt

check_kind_complete : (Σ : Signature) (G : List LfType) (K : Kind) → IsKind Σ G K → check_kind Σ G K ≡ true
check_kind_complete Σ G (kind_pi A K) (a, k) = both_of _ _ (check_type_complete Σ G A a) (check_kind_complete Σ (A ∷ G) K k)
check_kind_complete Σ G star k = refl

abbrev pub check_body : Signature → Body → Bool
check_body Σ (declare_family K) = both (check_kind Σ [] K) (at_most (kind_depth K) depth_limit)
check_body Σ (declare_constant A) = both (check_type Σ [] A) (at_most (type_depth A) depth_limit)
check_body Σ (declare_definition M A b) = both (both (check_type Σ [] A) (check Σ [] M A)) (both (at_most (type_depth A) depth_limit) (at_most (depth M) depth_limit))

body_typed : (Σ : Signature) (b : Body) → check_body Σ b ≡ true → BodyIsTyped Σ b
body_typed Σ (declare_family K) e = check_kind_sound Σ [] K (both_left _ _ e)
body_typed Σ (declare_constant A) e = check_type_sound Σ [] A (both_left _ _ e)
body_typed Σ (declare_definition M A b) e = let f : both (check_type Σ [] A) (check Σ [] M A) ≡ true = both_left _ _ e in (check_type_sound Σ [] A (both_left _ _ f), check_sound Σ [] M A (both_right (check_type Σ [] A) _ f))

body_within : (Σ : Signature) (b : Body) → check_body Σ b ≡ true → BodyIsWithin depth_limit b
body_within Σ (declare_family K) e = at_most_sound _ _ (both_right (check_kind Σ [] K) _ e)
body_within Σ (declare_constant A) e = at_most_sound _ _ (both_right (check_type Σ [] A) _ e)
body_within Σ (declare_definition M A b) e =
    let f : both (at_most (type_depth A) depth_limit) (at_most (depth M) depth_limit) ≡ true = both_right (both (check_type Σ [] A) (check Σ [] M A)) _ e in
    (at_most_sound _ _ (both_left _ _ f), at_most_sound _ _ (both_right (at_most (type_depth A) depth_limit) _ f))

body_checks : (Σ : Signature) (b : Body) → BodyIsTyped Σ b → BodyIsWithin depth_limit b → check_body Σ b ≡ true
body_checks Σ (declare_family K) t w = both_of _ _ (check_kind_complete Σ [] K t) (at_most_complete _ _ w)
body_checks Σ (declare_constant A) t w = both_of _ _ (check_type_complete Σ [] A t) (at_most_complete _ _ w)
body_checks Σ (declare_definition M A b) (t, m) (w, l) = both_of _ _ (both_of _ _ (check_type_complete Σ [] A t) (check_complete Σ [] M A m)) (both_of _ _ (at_most_complete _ _ w) (at_most_complete _ _ l))

abbrev pub check_entry : Signature → Entry → Bool
check_entry Σ e = both (check_body Σ e.body) (both (at_most e.implicit (body_quantifiers e.body)) (same_number (length e.hints) (body_quantifiers e.body)))

abbrev pub check_entries : List Entry → Bool
check_entries [] = true
check_entries (e ∷ es) = both (check_entries es) (check_entry (signature_of es) e)

entry_sound : (Σ : Signature) (e : Entry) → check_entry Σ e ≡ true → IsCanonicalEntry Σ e
entry_sound Σ e h =
    let b : check_body Σ e.body ≡ true = both_left _ _ h in
    let r : both (at_most e.implicit (body_quantifiers e.body)) (same_number (length e.hints) (body_quantifiers e.body)) ≡ true = both_right (check_body Σ e.body) _ h in
    record {
      typed = body_typed Σ e.body b;
      within = body_within Σ e.body b;
      implicit_lead = at_most_sound _ _ (both_left _ _ r);
      hint_each = number_is _ _ (both_right (at_most e.implicit (body_quantifiers e.body)) _ r);
    }

pub check_entries_sound : (es : List Entry) → check_entries es ≡ true → IsCanonicalSignature es
check_entries_sound [] h = tt
check_entries_sound (e ∷ es) h = (check_entries_sound es (both_left _ _ h), entry_sound (signature_of es) e (both_right (check_entries es) _ h))

entry_complete : (Σ : Signature) (e : Entry) → IsCanonicalEntry Σ e → check_entry Σ e ≡ true
entry_complete Σ e k = both_of _ _ (body_checks Σ e.body k.typed k.within) (both_of _ _ (at_most_complete _ _ k.implicit_lead) (subst (λ n. same_number (length e.hints) n ≡ true) k.hint_each (number_itself (length e.hints))))

pub check_entries_complete : (es : List Entry) → IsCanonicalSignature es → check_entries es ≡ true
check_entries_complete [] h = refl
check_entries_complete (e ∷ es) (o, k) = both_of _ _ (check_entries_complete es o) (entry_complete (signature_of es) e k)

pub entries_refused : (es : List Entry) → check_entries es ≡ false → IsCanonicalSignature es → ⊥
entries_refused es e k = true≢false (sym (check_entries_complete es k) ∙ e)
