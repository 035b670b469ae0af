-- Terms on own terms stay so where values are put in, where they are renamed, and where further block variables come behind.
use Rattle.std.proofs.Common.{◌≡◌, ℕ, zero, suc, List, [], ◌∷◌, ◌++◌, length, ◌+◌, ◌≤◌, Option, Some, None, Bool, true, false, cond, ◌⊎◌, inl, inr, refl, sym, ap, ◌∙◌, subst, arith}
use Rattle.lf.specs.Syntax.{constant, variable, metavariable, Term, Spine, lambda, root, nil, app, LfType, Kind, pi, atom, kind_pi, star, Skeleton, base, arrow, lift_renaming, rename, rename_spine, rename_type}
use Rattle.lf.specs.Substitution.{Image, keep, put, rename_image, lift, single, apply_image, substitute, substitute_spine, substitute_type, reduce}
use Rattle.lf.specs.Eta.{append}
use Rattle.lf.specs.Typing.{Signature, HasType, SpineType, SpineFitsKind, IsType, instantiate_type, instantiate_kind}
use Rattle.lf.specs.Variables.{same_number}
use Rattle.lf.specs.Subordination.{Block}
use Rattle.lf.proofs.Renaming.{OnPut, Puts, Puts-lift, Puts-single, OnPut-all, reduction_beta, reduction_is_natural, renamings_compose_spine, rename_substituted_spine, substitute_renamed_spine, substitute_identity_spine}
use Rattle.lf_coverage.proofs.Parts.{none_some, some_same}
use Rattle.lf_numbered.specs.EntryConstants.{EntryConstant, entry_among, entry_constant, entry_type, with_entries, IsFreeFrom}
use Rattle.lf_numbered.specs.OwnTerms.{BlockVariable, blocks_of, terms_at, terms_of_entry, own_terms, weaken_own, BeginsWith, OnOwnTerms, SpineOnOwnTerms, TypeOnOwnTerms, ImageOnOwnTerms, put_in_blocks}
use Rattle.lf_numbered.specs.EntryLaws.{OwnTermsAreKept, OwnTermsStay}
use Rattle.lf_numbered.proofs.EntrySignature.{else_cases, behind_kept, among_from}

-- own terms, renamed and with values put in
abbrev pub rename_own : (ℕ → ℕ) → Option Spine → Option Spine
rename_own ρ None = None
rename_own ρ (Some U) = Some (rename_spine ρ U)

abbrev pub substitute_own : (ℕ → Image) → Option Spine → Option Spine
substitute_own σ None = None
substitute_own σ (Some U) = Some (substitute_spine reduce σ U)

pub rename_append : (ρ : ℕ → ℕ) (U T : Spine) → rename_spine ρ (append U T) ≡ append (rename_spine ρ U) (rename_spine ρ T)
rename_append ρ nil T = refl
rename_append ρ (app M U) T = ap (app (rename ρ M)) (rename_append ρ U T)

pub substitute_append : (σ : ℕ → Image) (U T : Spine) → substitute_spine reduce σ (append U T) ≡ append (substitute_spine reduce σ U) (substitute_spine reduce σ T)
substitute_append σ nil T = refl
substitute_append σ (app M U) T = ap (app (substitute reduce σ M)) (substitute_append σ U T)

pub begins_renamed : (ρ : ℕ → ℕ) (u : Option Spine) (S : Spine) → BeginsWith u S → BeginsWith (rename_own ρ u) (rename_spine ρ S)
begins_renamed ρ None S b = tt
begins_renamed ρ (Some U) S (T, e) = (rename_spine ρ T, ap (rename_spine ρ) e ∙ rename_append ρ U T)

begins_substituted : (σ : ℕ → Image) (u : Option Spine) (S : Spine) → BeginsWith u S → BeginsWith (substitute_own σ u) (substitute_spine reduce σ S)
begins_substituted σ None S b = tt
begins_substituted σ (Some U) S (T, e) = (substitute_spine reduce σ T, ap (substitute_spine reduce σ) e ∙ substitute_append σ U T)

-- under a binder
pub rename_under : (ρ : ℕ → ℕ) (u : Option Spine) → weaken_own (rename_own ρ u) ≡ rename_own (lift_renaming ρ) (weaken_own u)
rename_under ρ None = refl
rename_under ρ (Some U) = ap Some (renamings_compose_spine suc ρ U ∙ sym (renamings_compose_spine (lift_renaming ρ) suc U))

pub substitute_under : (σ : ℕ → Image) (u : Option Spine) → weaken_own (substitute_own σ u) ≡ substitute_own (lift σ) (weaken_own u)
substitute_under σ None = refl
substitute_under σ (Some U) = ap Some (rename_substituted_spine reduce reduction_is_natural suc σ U ∙ sym (substitute_renamed_spine reduce (lift σ) suc U))

pub single_under : (a : Skeleton) (N : Term) (u : Option Spine) → u ≡ substitute_own (single a N) (weaken_own u)
single_under a N None = refl
single_under a N (Some U) = ap Some (sym (substitute_renamed_spine reduce (single a N) suc U ∙ substitute_identity_spine reduce U))

-- Renaming
mutual
  pub own_renamed : (o o' : ℕ → Option Spine) (ρ : ℕ → ℕ) (M : Term) → ((c : ℕ) → o' c ≡ rename_own ρ (o c)) → OnOwnTerms o M → OnOwnTerms o' (rename ρ M)
  own_renamed o o' ρ (lambda M) h m = own_renamed (λ c. weaken_own (o c)) (λ c. weaken_own (o' c)) (lift_renaming ρ) M (λ c. ap weaken_own (h c) ∙ rename_under ρ (o c)) m
  own_renamed o o' ρ (root (constant c) S) h (b, s) = (subst (λ u. BeginsWith u (rename_spine ρ S)) (sym (h c)) (begins_renamed ρ (o c) S b), spine_renamed o o' ρ S h s)
  own_renamed o o' ρ (root (variable i) S) h s = spine_renamed o o' ρ S h s
  own_renamed o o' ρ (root (metavariable c) S) h s = spine_renamed o o' ρ S h s

  pub spine_renamed : (o o' : ℕ → Option Spine) (ρ : ℕ → ℕ) (S : Spine) → ((c : ℕ) → o' c ≡ rename_own ρ (o c)) → SpineOnOwnTerms o S → SpineOnOwnTerms o' (rename_spine ρ S)
  spine_renamed o o' ρ nil h s = s
  spine_renamed o o' ρ (app M S) h (m, s) = (own_renamed o o' ρ M h m, spine_renamed o o' ρ S h s)

pub type_renamed : (o o' : ℕ → Option Spine) (ρ : ℕ → ℕ) (A : LfType) → ((c : ℕ) → o' c ≡ rename_own ρ (o c)) → TypeOnOwnTerms o A → TypeOnOwnTerms o' (rename_type ρ A)
type_renamed o o' ρ (pi A B) h (a, b) = (type_renamed o o' ρ A h a, type_renamed (λ c. weaken_own (o c)) (λ c. weaken_own (o' c)) (lift_renaming ρ) B (λ c. ap weaken_own (h c) ∙ rename_under ρ (o c)) b)
type_renamed o o' ρ (atom a S) h s = spine_renamed o o' ρ S h s

-- Substitution
abbrev pub RedOwn : Skeleton → Type 0
RedOwn a = (o : ℕ → Option Spine) (N : Term) (S : Spine) → OnOwnTerms o N → SpineOnOwnTerms o S → OnOwnTerms o (reduce a N S)

pub own_as_renamed : (u : Option Spine) → weaken_own u ≡ rename_own suc u
own_as_renamed None = refl
own_as_renamed (Some U) = refl

pub image_under : (o : ℕ → Option Spine) (x : Image) → ImageOnOwnTerms o x → ImageOnOwnTerms (λ c. weaken_own (o c)) (rename_image suc x)
image_under o (keep i) h = tt
image_under o (put a N) h = own_renamed o (λ c. weaken_own (o c)) suc N (λ c. own_as_renamed (o c)) h

pub images_under : (o : ℕ → Option Spine) (σ : ℕ → Image) → ((i : ℕ) → ImageOnOwnTerms o (σ i)) → (i : ℕ) → ImageOnOwnTerms (λ c. weaken_own (o c)) (lift σ i)
images_under o σ h zero = tt
images_under o σ h (suc i) = image_under o (σ i) (h i)

pub plug_own : (o : ℕ → Option Spine) (x : Image) (S : Spine) → OnPut RedOwn x → ImageOnOwnTerms o x → SpineOnOwnTerms o S → OnOwnTerms o (apply_image reduce x S)
plug_own o (keep i) S k h s = s
plug_own o (put a N) S k h s = k o N S h s

mutual
  put_own : (o o' : ℕ → Option Spine) (σ : ℕ → Image) (M : Term) → Puts RedOwn σ → ((c : ℕ) → o' c ≡ substitute_own σ (o c)) → ((i : ℕ) → ImageOnOwnTerms o' (σ i)) → OnOwnTerms o M → OnOwnTerms o' (substitute reduce σ M)
  put_own o o' σ (lambda M) k h v m = put_own (λ c. weaken_own (o c)) (λ c. weaken_own (o' c)) (lift σ) M (Puts-lift RedOwn σ k) (λ c. ap weaken_own (h c) ∙ substitute_under σ (o c)) (images_under o' σ v) m
  put_own o o' σ (root (constant c) S) k h v (b, s) = (subst (λ u. BeginsWith u (substitute_spine reduce σ S)) (sym (h c)) (begins_substituted σ (o c) S b), put_own_spine o o' σ S k h v s)
  put_own o o' σ (root (metavariable c) S) k h v s = put_own_spine o o' σ S k h v s
  put_own o o' σ (root (variable i) S) k h v s = plug_own o' (σ i) (substitute_spine reduce σ S) (k i) (v i) (put_own_spine o o' σ S k h v s)

  put_own_spine : (o o' : ℕ → Option Spine) (σ : ℕ → Image) (S : Spine) → Puts RedOwn σ → ((c : ℕ) → o' c ≡ substitute_own σ (o c)) → ((i : ℕ) → ImageOnOwnTerms o' (σ i)) → SpineOnOwnTerms o S → SpineOnOwnTerms o' (substitute_spine reduce σ S)
  put_own_spine o o' σ nil k h v s = s
  put_own_spine o o' σ (app M S) k h v (m, s) = (put_own o o' σ M k h v m, put_own_spine o o' σ S k h v s)

single_own : (o : ℕ → Option Spine) (a : Skeleton) (N : Term) → OnOwnTerms o N → (i : ℕ) → ImageOnOwnTerms o (single a N i)
single_own o a N n zero = n
single_own o a N n (suc i) = tt

pub reduce_own : (a : Skeleton) → RedOwn a
reduce_own (base c) o N S n s = n
reduce_own (arrow a b) o (root h T) S n s = n
reduce_own (arrow a b) o (lambda M) nil n s = n
reduce_own (arrow a b) o (lambda M) (app N S) m (n, s) = subst (OnOwnTerms o) (sym (reduction_beta a b M N S)) (reduce_own b o (substitute reduce (single a N) M) S (put_own (λ c. weaken_own (o c)) o (single a N) M (Puts-single RedOwn a N (reduce_own a)) (λ c. single_under a N (o c)) (single_own o a N n) m) s)

pub own_substituted : (o o' : ℕ → Option Spine) (σ : ℕ → Image) (M : Term) → ((c : ℕ) → o' c ≡ substitute_own σ (o c)) → ((i : ℕ) → ImageOnOwnTerms o' (σ i)) → OnOwnTerms o M → OnOwnTerms o' (substitute reduce σ M)
own_substituted o o' σ M = put_own o o' σ M (λ i. OnPut-all RedOwn reduce_own (σ i))

pub spine_substituted : (o o' : ℕ → Option Spine) (σ : ℕ → Image) (S : Spine) → ((c : ℕ) → o' c ≡ substitute_own σ (o c)) → ((i : ℕ) → ImageOnOwnTerms o' (σ i)) → SpineOnOwnTerms o S → SpineOnOwnTerms o' (substitute_spine reduce σ S)
spine_substituted o o' σ S = put_own_spine o o' σ S (λ i. OnPut-all RedOwn reduce_own (σ i))

pub type_substituted : (o o' : ℕ → Option Spine) (σ : ℕ → Image) (A : LfType) → ((c : ℕ) → o' c ≡ substitute_own σ (o c)) → ((i : ℕ) → ImageOnOwnTerms o' (σ i)) → TypeOnOwnTerms o A → TypeOnOwnTerms o' (substitute_type reduce σ A)
type_substituted o o' σ (pi A B) h v (a, b) = (type_substituted o o' σ A h v a, type_substituted (λ c. weaken_own (o c)) (λ c. weaken_own (o' c)) (lift σ) B (λ c. ap weaken_own (h c) ∙ substitute_under σ (o c)) (images_under o' σ v) b)
type_substituted o o' σ (atom a S) h v s = spine_substituted o o' σ S h v s

-- the own terms of block variables with values put in
pub put_in_keeps : (σ : ℕ → Image) (bs : List BlockVariable) → blocks_of (put_in_blocks σ bs) ≡ blocks_of bs
put_in_keeps σ [] = refl
put_in_keeps σ (b ∷ bs) = ap (λ Bs. b.block ∷ Bs) (put_in_keeps σ bs)

put_in_at : (σ : ℕ → Image) (bs : List BlockVariable) (k : ℕ) → terms_at (put_in_blocks σ bs) k ≡ substitute_own σ (terms_at bs k)
put_in_at σ [] k = refl
put_in_at σ (b ∷ bs) zero = refl
put_in_at σ (b ∷ bs) (suc k) = put_in_at σ bs k

put_in_entry : (σ : ℕ → Image) (bs : List BlockVariable) (x : Option EntryConstant) → terms_of_entry (put_in_blocks σ bs) x ≡ substitute_own σ (terms_of_entry bs x)
put_in_entry σ bs None = refl
put_in_entry σ bs (Some e) = put_in_at σ bs e.number

pub put_in_own : (first : ℕ) (bs : List BlockVariable) (σ : ℕ → Image) (c : ℕ) → own_terms first (put_in_blocks σ bs) c ≡ substitute_own σ (own_terms first bs c)
put_in_own first bs σ c = ap (λ Bs. terms_of_entry (put_in_blocks σ bs) (entry_constant zero first Bs c)) (put_in_keeps σ bs) ∙ put_in_entry σ bs (entry_constant zero first (blocks_of bs) c)

pub own_terms_are_kept : OwnTermsAreKept
own_terms_are_kept first bs σ v = (
  λ M m. own_substituted (own_terms first bs) (own_terms first (put_in_blocks σ bs)) σ M (put_in_own first bs σ) v m,
  λ A a. type_substituted (own_terms first bs) (own_terms first (put_in_blocks σ bs)) σ A (put_in_own first bs σ) v a,
)

-- Where the constants of a signature have the same own terms, a typed term is on the ones as on the others
module _ (Σ : Signature) where
  mutual
    pub own_agrees : (o o' : ℕ → Option Spine) (h : (c : ℕ) (A : LfType) → Σ.types c ≡ Some A → o' c ≡ o c) (G : List LfType) (M : Term) (A : LfType) → HasType Σ G M A → OnOwnTerms o M → OnOwnTerms o' M
    own_agrees o o' h G (lambda M) (pi A B) t m = own_agrees (λ c. weaken_own (o c)) (λ c. weaken_own (o' c)) (λ c X e. ap weaken_own (h c X e)) (A ∷ G) M B t m
    own_agrees o o' h G (lambda M) (atom a T) t m = absurd t
    own_agrees o o' h G (root k S) (pi A B) t m = absurd t
    own_agrees o o' h G (root (constant c) S) (atom a T) (A, g, s) (b, m) = (subst (λ u. BeginsWith u S) (sym (h c A g)) b, spine_agrees o o' h G S A (atom a T) s m)
    own_agrees o o' h G (root (variable i) S) (atom a T) (A, g, s) m = spine_agrees o o' h G S A (atom a T) s m
    own_agrees o o' h G (root (metavariable c) S) (atom a T) (A, g, s) m = spine_agrees o o' h G S A (atom a T) s m

    spine_agrees : (o o' : ℕ → Option Spine) (h : (c : ℕ) (A : LfType) → Σ.types c ≡ Some A → o' c ≡ o c) (G : List LfType) (S : Spine) (A C : LfType) → SpineType Σ G S A C → SpineOnOwnTerms o S → SpineOnOwnTerms o' S
    spine_agrees o o' h G nil A C t s = s
    spine_agrees o o' h G (app M S) (pi A B) C (t, u) (m, s) = (own_agrees o o' h G M A t m, spine_agrees o o' h G S (instantiate_type A M B) C u s)
    spine_agrees o o' h G (app M S) (atom a T) C t s = absurd t

  arguments_agree : (o o' : ℕ → Option Spine) (h : (c : ℕ) (A : LfType) → Σ.types c ≡ Some A → o' c ≡ o c) (G : List LfType) (S : Spine) (K : Kind) → SpineFitsKind Σ G S K → SpineOnOwnTerms o S → SpineOnOwnTerms o' S
  arguments_agree o o' h G nil K t s = s
  arguments_agree o o' h G (app M S) (kind_pi A K) (t, u) (m, s) = (own_agrees o o' h G M A t m, arguments_agree o o' h G S (instantiate_kind A M K) u s)
  arguments_agree o o' h G (app M S) star t s = absurd t

  pub type_agrees : (o o' : ℕ → Option Spine) (h : (c : ℕ) (A : LfType) → Σ.types c ≡ Some A → o' c ≡ o c) (G : List LfType) (A : LfType) → IsType Σ G A → TypeOnOwnTerms o A → TypeOnOwnTerms o' A
  type_agrees o o' h G (pi A B) (t, u) (a, b) = (type_agrees o o' h G A t a, type_agrees (λ c. weaken_own (o c)) (λ c. weaken_own (o' c)) (λ c X e. ap weaken_own (h c X e)) (A ∷ G) B u b)
  type_agrees o o' h G (atom a S) (K, e, s) m = arguments_agree o o' h G S K s m

-- Block variables behind
pub blocks_append : (bs cs : List BlockVariable) → blocks_of (bs ++ cs) ≡ blocks_of bs ++ blocks_of cs
blocks_append [] cs = refl
blocks_append (b ∷ bs) cs = ap (λ Bs. b.block ∷ Bs) (blocks_append bs cs)

pub entry_from : (k n : ℕ) (Bs : List Block) (c : ℕ) (e : EntryConstant) → entry_constant k n Bs c ≡ Some e → n ≤ c
entry_from k n [] c e q = absurd cc
entry_from k n (B ∷ Bs) c e q = at (entry_from (suc k) (n + length B.entries) Bs c e) (else_cases (entry_among k B n zero B.entries c) (entry_constant (suc k) (n + length B.entries) Bs c) e q)
  where
    at : (entry_constant (suc k) (n + length B.entries) Bs c ≡ Some e → n + length B.entries ≤ c) → (entry_among k B n zero B.entries c ≡ Some e) ⊎ (entry_constant (suc k) (n + length B.entries) Bs c ≡ Some e) → n ≤ c
    at ih (inl p) = among_from k B n zero B.entries c e p
    at ih (inr p) = let l = ih p in omega arith

-- an old constant is no entry
pub old_is_none : (Σ : Signature) (first : ℕ) → IsFreeFrom Σ first → (Bs : List Block) (c : ℕ) (A : LfType) → Σ.types c ≡ Some A → entry_constant zero first Bs c ≡ None
old_is_none Σ first free Bs c A e = at (entry_constant zero first Bs c) refl
  where
    at : (x : Option EntryConstant) → entry_constant zero first Bs c ≡ x → entry_constant zero first Bs c ≡ None
    at None q = q
    at (Some x) q = absurd (none_some (sym (free.types_free c (entry_from zero first Bs c x q)) ∙ e))

-- an entry is one of a block variable of the list
pub number_among : (k : ℕ) (B : Block) (n p : ℕ) (es : List LfType) (c : ℕ) (e : EntryConstant) → entry_among k B n p es c ≡ Some e → e.number ≡ k
number_among k B n p [] c e r = absurd cc
number_among k B n p (E ∷ es) c e r = by (number_among k B n (suc p) es c e) (same_number c (n + length es)) r
  where
    by : (entry_among k B n (suc p) es c ≡ Some e → e.number ≡ k) → (b : Bool) → cond b (Some (record { number = k; block = B; from = n; place = p; entry = E; before = es })) (entry_among k B n (suc p) es c) ≡ Some e → e.number ≡ k
    by ih true r = ap (λ (x : EntryConstant). x.number) (sym (some_same r))
    by ih false r = ih r

pub number_in : (k n : ℕ) (Bs : List Block) (c : ℕ) (e : EntryConstant) → entry_constant k n Bs c ≡ Some e → (j : ℕ) × (e.number ≡ k + j) × (suc j ≤ length Bs)
number_in k n [] c e q = absurd cc
number_in k n (B ∷ Bs) c e q = at (number_in (suc k) (n + length B.entries) Bs c e) (else_cases (entry_among k B n zero B.entries c) (entry_constant (suc k) (n + length B.entries) Bs c) e q)
  where
    at : (entry_constant (suc k) (n + length B.entries) Bs c ≡ Some e → (j : ℕ) × (e.number ≡ suc k + j) × (suc j ≤ length Bs)) → (entry_among k B n zero B.entries c ≡ Some e) ⊎ (entry_constant (suc k) (n + length B.entries) Bs c ≡ Some e) → (j : ℕ) × (e.number ≡ k + j) × (suc j ≤ suc (length Bs))
    at ih (inl p) = let f = number_among k B n zero B.entries c e p in (zero, omega arith, omega arith)
    at ih (inr p) = let (j, f, l) = ih p in (suc j, omega arith, omega arith)

terms_stay : (bs cs : List BlockVariable) (k : ℕ) → suc k ≤ length (blocks_of bs) → terms_at (bs ++ cs) k ≡ terms_at bs k
terms_stay [] cs k l = absurd (omega (arith, l))
terms_stay (b ∷ bs) cs zero l = refl
terms_stay (b ∷ bs) cs (suc k) l = terms_stay bs cs k (omega (arith, l))

pub own_stays : (Σ : Signature) (first : ℕ) → IsFreeFrom Σ first → (bs cs : List BlockVariable) (c : ℕ) (A : LfType) → (with_entries Σ first (blocks_of bs)).types c ≡ Some A → own_terms first (bs ++ cs) c ≡ own_terms first bs c
own_stays Σ first free bs cs c A e = ap (λ Bs. terms_of_entry (bs ++ cs) (entry_constant zero first Bs c)) (blocks_append bs cs) ∙ at (else_cases (Σ.types c) (entry_type (entry_constant zero first (blocks_of bs) c)) A e)
  where
    entry_at : (x : Option EntryConstant) → entry_constant zero first (blocks_of bs) c ≡ x → entry_type x ≡ Some A → terms_of_entry (bs ++ cs) (entry_constant zero first (blocks_of bs ++ blocks_of cs) c) ≡ terms_of_entry bs (entry_constant zero first (blocks_of bs) c)
    entry_at None q r = absurd cc
    entry_at (Some x) q r =
        let (j, f, l) = number_in zero first (blocks_of bs) c x q in
        ap (terms_of_entry (bs ++ cs)) (behind_kept zero first (blocks_of bs) (blocks_of cs) c x q) ∙ terms_stay bs cs x.number (omega arith) ∙ sym (ap (terms_of_entry bs) q)

    at : (Σ.types c ≡ Some A) ⊎ (entry_type (entry_constant zero first (blocks_of bs) c) ≡ Some A) → terms_of_entry (bs ++ cs) (entry_constant zero first (blocks_of bs ++ blocks_of cs) c) ≡ terms_of_entry bs (entry_constant zero first (blocks_of bs) c)
    at (inl q) = ap (terms_of_entry (bs ++ cs)) (old_is_none Σ first free (blocks_of bs ++ blocks_of cs) c A q) ∙ sym (ap (terms_of_entry bs) (old_is_none Σ first free (blocks_of bs) c A q))
    at (inr q) = entry_at (entry_constant zero first (blocks_of bs) c) refl q

pub own_terms_stay : OwnTermsStay
own_terms_stay Σ first free bs cs G = (
  λ M A t m. own_agrees (with_entries Σ first (blocks_of bs)) (own_terms first bs) (own_terms first (bs ++ cs)) (own_stays Σ first free bs cs) G M A t m,
  λ A t m. type_agrees (with_entries Σ first (blocks_of bs)) (own_terms first bs) (own_terms first (bs ++ cs)) (own_stays Σ first free bs cs) G A t m,
)
