-- A scope seen without the variables of arrows: names and types of the others, and where each stands.
use Rattle.std.proofs.Common.{◌≡◌, ℕ, zero, suc, List, [], ◌∷◌, option_map, Bool, true, false, Option, None, Some, if◌then◌else◌, refl, sym, ap, ◌∙◌, subst}
use mathlib.Core.Path.{fun_ext}
use Rattle.std.specs.Str.{bytes_eq}
use Rattle.lf.specs.Entries.{Entry}
use Rattle.lf.specs.Syntax.{Head, constant, variable, metavariable, LfType, Kind, kind_pi, star, lift_renaming, rename_head, rename_type, rename_kind, weaken}
use Rattle.lf.specs.Typing.{TypeAt, IsTypedRenaming}
use Rattle.lf.specs.Variables.{onto}
use Rattle.lf.proofs.Renaming.{up_up}
use Rattle.lf.proofs.TypeLaws.{renamings_compose_type}
use Rattle.lf.proofs.Weakening.{renames_under_binder}
use Rattle.lf_unification.proofs.Eta.{rename_id_type}
use Rattle.tw_names.specs.Scope.{head_named, named}
use Rattle.tw_fixity.specs.Names.{Names, variable_of}
use Rattle.tw_signature.specs.Names.{number_of}

-- Of the variables named N, of the types G: `place` takes each variable that is kept to where it stands among them.
pub record View (N : Names) (G : List LfType) : Type 0 where
  pub names : Names
  pub context : List LfType
  pub place : ℕ → ℕ
  pub back : ℕ → ℕ
  pub inverse : (i : ℕ) → back (place i) ≡ i
  pub typed : IsTypedRenaming context G place
  pub alike : (x : List ℕ) → variable_of N x ≡ option_map place (variable_of names x)
  pub within : (x : List ℕ) (j : ℕ) → variable_of names x ≡ Some j → (A : LfType) × TypeAt context j A

pub none_within : (x : List ℕ) (j : ℕ) → variable_of [] x ≡ Some j → (A : LfType) × TypeAt [] j A
none_within x j e = absurd cc

abbrev pub view_empty : View [] []
view_empty = record { names = []; context = []; place = λ i. i; back = λ i. i; inverse = λ i. refl; typed = λ i A t. absurd t; alike = λ x. refl; within = none_within }

-- behind the variable of an arrow
abbrev pub lower : ℕ → ℕ
lower zero = zero
lower (suc i) = i

further : (ρ : ℕ → ℕ) (o : Option ℕ) → option_map suc (option_map ρ o) ≡ option_map (λ i. suc (ρ i)) o
further ρ None = refl
further ρ (Some i) = refl

pub passed_alike : (N : Names) (G : List LfType) (v : View N G) (x : List ℕ) → option_map suc (variable_of N x) ≡ option_map (λ i. suc (v.place i)) (variable_of v.names x)
passed_alike N G v x = ap (option_map suc) (v.alike x) ∙ further v.place (variable_of v.names x)

pub passed_typed : (N : Names) (G : List LfType) (v : View N G) (A : LfType) → IsTypedRenaming v.context (A ∷ G) (λ i. suc (v.place i))
passed_typed N G v A i B t = (rename_type v.place B, v.typed i B t, sym (renamings_compose_type suc v.place B))

abbrev pub view_by : (N : Names) (G : List LfType) → View N G → (A : LfType) → View (None ∷ N) (A ∷ G)
view_by N G v A = record { names = v.names; context = v.context; place = λ i. suc (v.place i); back = λ i. v.back (lower i); inverse = v.inverse; typed = passed_typed N G v A; alike = passed_alike N G v; within = v.within }

-- under a binder
pub lifted_inverse : (ρ τ : ℕ → ℕ) → ((i : ℕ) → τ (ρ i) ≡ i) → (i : ℕ) → lift_renaming τ (lift_renaming ρ i) ≡ i
lifted_inverse ρ τ h zero = refl
lifted_inverse ρ τ h (suc i) = ap suc (h i)

lifted_further : (ρ : ℕ → ℕ) (o : Option ℕ) → option_map suc (option_map ρ o) ≡ option_map (lift_renaming ρ) (option_map suc o)
lifted_further ρ None = refl
lifted_further ρ (Some i) = refl

pub lifted_alike : (n : Option (List ℕ)) (N : Names) (G : List LfType) (v : View N G) (x : List ℕ) → variable_of (n ∷ N) x ≡ option_map (lift_renaming v.place) (variable_of (n ∷ v.names) x)
lifted_alike None N G v x = ap (option_map suc) (v.alike x) ∙ lifted_further v.place (variable_of v.names x)
lifted_alike (Some y) N G v x = by (bytes_eq y x)
  where
    by : (b : Bool) → (if b then Some zero else option_map suc (variable_of N x)) ≡ option_map (lift_renaming v.place) (if b then Some zero else option_map suc (variable_of v.names x))
    by true = refl
    by false = ap (option_map suc) (v.alike x) ∙ lifted_further v.place (variable_of v.names x)

lower_some : (o : Option ℕ) (j : ℕ) → option_map suc o ≡ Some (suc j) → o ≡ Some j
lower_some None j e = absurd cc
lower_some (Some i) j e = cc

lower_test : (b : Bool) (o : Option ℕ) (j : ℕ) → (if b then Some zero else option_map suc o) ≡ Some (suc j) → o ≡ Some j
lower_test true o j e = absurd cc
lower_test false o j e = lower_some o j e

pub lifted_within : (n : Option (List ℕ)) (N : Names) (G : List LfType) (v : View N G) (B : LfType) (x : List ℕ) (j : ℕ) → variable_of (n ∷ v.names) x ≡ Some j → (A : LfType) × TypeAt (B ∷ v.context) j A
lifted_within n N G v B x zero e = (weaken B, refl)
lifted_within None N G v B x (suc j) e = let (A, t) = v.within x j (lower_some (variable_of v.names x) j e) in (weaken A, (A, t, refl))
lifted_within (Some y) N G v B x (suc j) e = let (A, t) = v.within x j (lower_test (bytes_eq y x) (variable_of v.names x) j e) in (weaken A, (A, t, refl))

pub lifted_typed : (N : Names) (G : List LfType) (v : View N G) (A B : LfType) → A ≡ rename_type v.place B → IsTypedRenaming (B ∷ v.context) (A ∷ G) (lift_renaming v.place)
lifted_typed N G v A B e = subst (λ X. IsTypedRenaming (B ∷ v.context) (X ∷ G) (lift_renaming v.place)) (sym e) (renames_under_binder v.context G v.place B v.typed)

abbrev pub view_under : (n : Option (List ℕ)) (N : Names) (G : List LfType) (v : View N G) (A B : LfType) → A ≡ rename_type v.place B → View (n ∷ N) (A ∷ G)
view_under n N G v A B e = record { names = n ∷ v.names; context = B ∷ v.context; place = lift_renaming v.place; back = lift_renaming v.back; inverse = lifted_inverse v.place v.back v.inverse; typed = lifted_typed N G v A B e; alike = lifted_alike n N G v; within = lifted_within n N G v B }

-- types that are the same where they stand are the same
pub place_back : (N : Names) (G : List LfType) (v : View N G) (A : LfType) → rename_type v.back (rename_type v.place A) ≡ A
place_back N G v A = renamings_compose_type v.back v.place A ∙ ap (λ ρ. rename_type ρ A) (fun_ext v.inverse) ∙ rename_id_type A

pub same_placed : (N : Names) (G : List LfType) (v : View N G) (A B : LfType) → rename_type v.place A ≡ rename_type v.place B → A ≡ B
same_placed N G v A B e = sym (place_back N G v A) ∙ ap (rename_type v.back) e ∙ place_back N G v B

-- what a name names
head_back : (ρ : ℕ → ℕ) (o c : Option ℕ) (h : Head) → head_named (option_map ρ o) c ≡ Some h → (k : Head) × (head_named o c ≡ Some k) × (h ≡ rename_head ρ k)
head_back ρ (Some i) c h e = (variable i, refl, cc)
head_back ρ None (Some c) h e = (constant c, refl, cc)
head_back ρ None None h e = absurd cc

pub named_back : (es : List Entry) (N : Names) (G : List LfType) (v : View N G) (x : List ℕ) (h : Head) → named es N x ≡ Some h → (k : Head) × (named es v.names x ≡ Some k) × (h ≡ rename_head v.place k)
named_back es N G v x h e = head_back v.place (variable_of v.names x) (number_of es x) h (ap (λ o. head_named o (number_of es x)) (sym (v.alike x)) ∙ e)

variable_back : (o c : Option ℕ) (j : ℕ) → head_named o c ≡ Some (variable j) → o ≡ Some j
variable_back (Some i) c j e = cc
variable_back None (Some c) j e = absurd cc
variable_back None None j e = absurd cc

pub variable_within : (es : List Entry) (N : Names) (G : List LfType) (v : View N G) (x : List ℕ) (j : ℕ) → named es v.names x ≡ Some (variable j) → (A : LfType) × TypeAt v.context j A
variable_within es N G v x j e = v.within x j (variable_back (variable_of v.names x) (number_of es x) j e)

pub constant_back : (ρ : ℕ → ℕ) (a : ℕ) (h : Head) → constant a ≡ rename_head ρ h → h ≡ constant a
constant_back ρ a (constant c) e = cc
constant_back ρ a (variable i) e = absurd cc
constant_back ρ a (metavariable m) e = absurd cc

-- contexts with nothing after them
pub onto_nothing : (D : List LfType) → onto D [] ≡ D
onto_nothing [] = refl
onto_nothing (A ∷ D) = ap (λ E. A ∷ E) (onto_nothing D)

pub renamings_compose_kind : (ρ τ : ℕ → ℕ) (K : Kind) → rename_kind ρ (rename_kind τ K) ≡ rename_kind (λ i. ρ (τ i)) K
renamings_compose_kind ρ τ (kind_pi A K) = by (renamings_compose_type ρ τ A) (renamings_compose_kind (lift_renaming ρ) (lift_renaming τ) K ∙ ap (λ f. rename_kind f K) (fun_ext (up_up ρ τ)))
  where
    by : {X Y : LfType} {L M : Kind} → X ≡ Y → L ≡ M → kind_pi X L ≡ kind_pi Y M
    by e f = cc
renamings_compose_kind ρ τ star = refl

pub rename_id_kind : (K : Kind) → rename_kind (λ i. i) K ≡ K
rename_id_kind (kind_pi A K) = by (rename_id_type A) (ap (λ f. rename_kind f K) (fun_ext up_id) ∙ rename_id_kind K)
  where
    up_id : (i : ℕ) → lift_renaming (λ i. i) i ≡ i
    up_id zero = refl
    up_id (suc i) = refl

    by : {X Y : LfType} {L M : Kind} → X ≡ Y → L ≡ M → kind_pi X L ≡ kind_pi Y M
    by e f = cc
rename_id_kind star = refl

-- a type that has been moved over the variable of an arrow
pub moved_over : (ρ : ℕ → ℕ) (B : LfType) → rename_type (λ i. suc (ρ i)) B ≡ rename_type (lift_renaming ρ) (weaken B)
moved_over ρ B = sym (renamings_compose_type (lift_renaming ρ) suc B)

pub kind_moved_over : (ρ : ℕ → ℕ) (K : Kind) → rename_kind (λ i. suc (ρ i)) K ≡ rename_kind (lift_renaming ρ) (rename_kind suc K)
kind_moved_over ρ K = sym (renamings_compose_kind (lift_renaming ρ) suc K)
