-- One signature for the examples: numbers, vectors of a length, untyped lambda terms, a family over vectors, a definition.
use Rattle.std.proofs.Common.{◌≡◌, ℕ, zero, suc, List, [], ◌∷◌, Option, Some, None, false, refl, ◌∙◌, arith}
use Rattle.std.proofs.Common as path
use Rattle.std.proofs.Math.Nat.{max-eq_left}
use Rattle.lf.specs.Depth.{depth, spine_depth}
use Rattle.lf.specs.Syntax.{constant, variable, Term, Spine, lambda, root, nil, app, LfType, Kind, pi, atom, kind_pi, star}
use Rattle.lf.specs.Typing.{Signature, IsSignature}
use Rattle.lf.specs.Constants.{constants_of}
use Rattle.lf.specs.Entries.{Entry, Body, declare_family, declare_constant, declare_definition, signature_of, IsCanonicalSignature}
use Rattle.lf.proofs.Entries.{canonical_is_signature}
use Rattle.lf.proofs.EntryChecker.{check_entries_sound, entries_refused}

-- a variable, or a constant, on a spine
abbrev pub v : ℕ → Term
v i = root (variable i) nil

abbrev pub c : ℕ → Term
c k = root (constant k) nil

abbrev pub one_argument : Term → Spine
one_argument M = app M nil

abbrev pub two_arguments : Term → Term → Spine
two_arguments M N = app M (app N nil)

-- 0 nat : type
abbrev pub nat : LfType
nat = atom 0 nil

-- 1 vec : nat -> type
abbrev pub vec : Term → LfType
vec M = atom 1 (one_argument M)

-- 2 exp : type
abbrev pub exp : LfType
exp = atom 2 nil

-- 3 z : nat
abbrev pub z : Term
z = c 3

-- 4 s : nat -> nat
abbrev pub s : Term → Term
s M = root (constant 4) (one_argument M)

-- 5 vnil : vec z
abbrev pub vnil : Term
vnil = c 5

-- 6 vcons : {n:nat} nat -> vec n -> vec (s n)
abbrev pub vcons : Term → Term → Term → Term
vcons N M V = root (constant 6) (app N (app M (app V nil)))

abbrev pub vcons_type : LfType
vcons_type = pi nat (pi nat (pi (vec (v 1)) (vec (s (v 2)))))

-- 7 ap : exp -> exp -> exp
abbrev pub ap : Term → Term → Term
ap M N = root (constant 7) (two_arguments M N)

-- 8 lam : (exp -> exp) -> exp
abbrev pub lam : Term → Term
lam M = root (constant 8) (one_argument (lambda M))

-- 9 one : nat = s z, a definition

-- 10 same : {n:nat} vec n -> vec n -> type
abbrev pub same : Term → Term → Term → LfType
same N V W = atom 10 (app N (app V (app W nil)))

abbrev pub same_kind : Kind
same_kind = kind_pi nat (kind_pi (vec (v 0)) (kind_pi (vec (v 1)) star))

-- 11 itself : {n:nat} {x:vec n} same n x x
abbrev pub itself_type : LfType
itself_type = pi nat (pi (vec (v 0)) (same (v 1) (v 0) (v 0)))

-- 12 iter : ((nat -> nat) -> nat) -> nat
abbrev pub iter_type : LfType
iter_type = pi (pi (pi nat nat) nat) nat

abbrev named : List ℕ → Body → ℕ → List (Option (List ℕ)) → Entry
named n b i h = record { name = n; body = b; implicit = i; hints = h }

-- the entries, the newest in front; names are bytes
abbrev pub example_entries : List Entry
example_entries =
    named (105 ∷ 116 ∷ 101 ∷ 114 ∷ []) (declare_constant iter_type) 0 (None ∷ []) ∷
    named (105 ∷ 116 ∷ 115 ∷ 101 ∷ 108 ∷ 102 ∷ []) (declare_constant itself_type) 1 (Some (110 ∷ []) ∷ Some (120 ∷ []) ∷ []) ∷
    named (115 ∷ 97 ∷ 109 ∷ 101 ∷ []) (declare_family same_kind) 1 (Some (110 ∷ []) ∷ None ∷ None ∷ []) ∷
    named (111 ∷ 110 ∷ 101 ∷ []) (declare_definition (s z) nat false) 0 [] ∷
    named (108 ∷ 97 ∷ 109 ∷ []) (declare_constant (pi (pi exp exp) exp)) 0 (None ∷ []) ∷
    named (97 ∷ 112 ∷ []) (declare_constant (pi exp (pi exp exp))) 0 (None ∷ None ∷ []) ∷
    named (118 ∷ 99 ∷ 111 ∷ 110 ∷ 115 ∷ []) (declare_constant vcons_type) 1 (Some (110 ∷ []) ∷ None ∷ None ∷ []) ∷
    named (118 ∷ 110 ∷ 105 ∷ 108 ∷ []) (declare_constant (vec z)) 0 [] ∷
    named (115 ∷ []) (declare_constant (pi nat nat)) 0 (None ∷ []) ∷
    named (122 ∷ []) (declare_constant nat) 0 [] ∷
    named (101 ∷ 120 ∷ 112 ∷ []) (declare_family star) 0 [] ∷
    named (118 ∷ 101 ∷ 99 ∷ []) (declare_family (kind_pi nat star)) 0 (None ∷ []) ∷
    named (110 ∷ 97 ∷ 116 ∷ []) (declare_family star) 0 [] ∷ []

abbrev pub Σ₀ : Signature
Σ₀ = signature_of example_entries

-- it is canonical LF
pub entries_canonical : IsCanonicalSignature example_entries
entries_canonical = check_entries_sound example_entries refl

-- the constants of a family are those whose type ends in it, the oldest first; a definition isn't among them
pub numbers_constants : constants_of example_entries 0 ≡ 3 ∷ 4 ∷ 12 ∷ []
numbers_constants = refl

pub vectors_constants : constants_of example_entries 1 ≡ 5 ∷ 6 ∷ []
vectors_constants = refl

pub constants_out_of_order : constants_of example_entries 1 ≡ 6 ∷ 5 ∷ [] → ⊥
constants_out_of_order e = cc

-- Entries that may not come next.

-- a constant of a type that is none
pub untyped_entry : IsCanonicalSignature (named (120 ∷ []) (declare_constant (vec vnil)) 0 [] ∷ example_entries) → ⊥
untyped_entry = entries_refused (named (120 ∷ []) (declare_constant (vec vnil)) 0 [] ∷ example_entries) refl

-- a definition whose term has another type
pub untyped_definition : IsCanonicalSignature (named (120 ∷ []) (declare_definition z exp false) 0 [] ∷ example_entries) → ⊥
untyped_definition = entries_refused (named (120 ∷ []) (declare_definition z exp false) 0 [] ∷ example_entries) refl

-- a constant in whose type a definition is a head
pub definition_in_a_type : IsCanonicalSignature (named (120 ∷ []) (declare_constant (vec (c 9))) 0 [] ∷ example_entries) → ⊥
definition_in_a_type = entries_refused (named (120 ∷ []) (declare_constant (vec (c 9))) 0 [] ∷ example_entries) refl

-- two implicit quantifiers where one leads
pub too_many_implicit : IsCanonicalSignature (named (120 ∷ []) (declare_constant (pi nat nat)) 2 (None ∷ []) ∷ example_entries) → ⊥
too_many_implicit = entries_refused (named (120 ∷ []) (declare_constant (pi nat nat)) 2 (None ∷ []) ∷ example_entries) refl

-- no place for a hint
pub hint_missing : IsCanonicalSignature (named (120 ∷ []) (declare_constant (pi nat nat)) 0 [] ∷ example_entries) → ⊥
hint_missing = entries_refused (named (120 ∷ []) (declare_constant (pi nat nat)) 0 [] ∷ example_entries) refl

-- an entry that names itself
pub too_early : IsCanonicalSignature (named (122 ∷ []) (declare_constant (atom 1 nil)) 0 [] ∷ named (110 ∷ []) (declare_family star) 0 [] ∷ []) → ⊥
too_early = entries_refused (named (122 ∷ []) (declare_constant (atom 1 nil)) 0 [] ∷ named (110 ∷ []) (declare_family star) 0 [] ∷ []) refl

-- n times s on z, at depth n + 1
pub tower : ℕ → Term
tower zero = z
tower (suc n) = s (tower n)

tower_depth : (n : ℕ) → depth (tower n) ≡ suc n
unfolding tower
tower_depth zero = refl
tower_depth (suc n) = path.ap suc (one_argument_depth (tower n) ∙ tower_depth n)
  where
    one_argument_depth : (M : Term) → spine_depth (one_argument M) ≡ depth M
    one_argument_depth M = max-eq_left (omega arith)

-- a definition that is too deep by one
pub too_deep : IsCanonicalSignature (named (120 ∷ []) (declare_definition (tower 4096) nat false) 0 [] ∷ example_entries) → ⊥
too_deep (o, k) = let l = k.within.1 in let e = tower_depth 4096 in absurd (omega arith)

-- so the signature is well formed
pub well_formed : IsSignature Σ₀
well_formed = canonical_is_signature example_entries entries_canonical
