-- Worked declarations.
use Rattle.std.specs.Prelude.{◌≡◌, ℕ, List, [], ◌∷◌, Option, None, false}
use Rattle.lf.specs.Entries.{Body, Entry, declare_constant, declare_definition, declare_family, signature_of}
use Rattle.lf.specs.Syntax.{LfType, Term, app, atom, base, constant, kind_pi, lambda, metavariable, nil, pi, root, star, variable}
use Rattle.lf_elaboration.specs.Elaboration.{ElaboratesKind, ElaboratesType, Infers, NewFrees}
use Rattle.lf_elaboration.specs.Principal.{Completion, IsCompletion, IsPrincipal, WrittenBody, written_constant, written_definition, written_definition_of}
use Rattle.lf_elaboration.specs.Sites.{AreFreesInOrder, AreSites}
use Rattle.lf_elaboration.specs.State.{State, nothing_yet, type_equations, with_equations, with_metavariable}
use Rattle.lf_elaboration.specs.Written.{Place, Written, WrittenType, applied, arrow, bound, declared, family, family_applied, free, function, hole, kind_arrow, of_skeleton, quantified, written_star}
use Rattle.lf_unification.specs.Unifiers.{Equation}

-- 0 nat : type
abbrev pub nat : LfType
nat = atom 0 nil

-- 1 z : nat
abbrev pub z : Term
z = root (constant 1) nil

-- 2 s : nat -> nat
abbrev pub successor : Term → Term
successor M = root (constant 2) (app M nil)

-- 3 plus : nat -> nat -> nat -> type
abbrev pub plus : Term → Term → Term → LfType
plus M N P = atom 3 (app M (app N (app P nil)))

-- 4 vec : nat -> type
abbrev pub vec : Term → LfType
vec M = atom 4 (app M nil)

-- 5 vcons : {N:nat} nat -> vec N -> vec (s N), the first implicit
abbrev pub vcons : Term → Term → Term → Term
vcons N M V = root (constant 5) (app N (app M (app V nil)))

-- 6 full : {N:nat} vec N -> type, the first implicit
abbrev pub full : Term → Term → LfType
full N V = atom 6 (app N (app V nil))

-- 7 map : (nat -> nat) -> type
abbrev pub maps : Term → LfType
maps M = atom 7 (app M nil)

-- 8 one : nat = s z, a definition

abbrev pub place : ℕ → Term
place i = root (variable i) nil

abbrev named : Body → ℕ → List (Option (List ℕ)) → Entry
named b i h = record { name = 120 ∷ []; body = b; implicit = i; hints = h }

abbrev pub entries : List Entry
entries =
    named (declare_definition (successor z) nat false) 0 [] ∷
    named (declare_family (kind_pi (pi nat nat) star)) 0 (None ∷ []) ∷
    named (declare_family (kind_pi nat (kind_pi (vec (place 0)) star))) 1 (None ∷ None ∷ []) ∷
    named (declare_constant (pi nat (pi nat (pi (vec (place 1)) (vec (successor (place 2))))))) 1 (None ∷ None ∷ None ∷ []) ∷
    named (declare_family (kind_pi nat star)) 0 (None ∷ []) ∷
    named (declare_family (kind_pi nat (kind_pi nat (kind_pi nat star)))) 0 (None ∷ None ∷ None ∷ []) ∷
    named (declare_constant (pi nat nat)) 0 (None ∷ []) ∷
    named (declare_constant nat) 0 [] ∷
    named (declare_family star) 0 [] ∷ []

-- the places of the examples' texts don't matter
abbrev pub anywhere : Place
anywhere = record { line = 1; column = 1 }

-- a metavariable
abbrev pub meta : ℕ → Term
meta m = root (metavariable m) nil

abbrev pub equal_numbers : Term → Term → Equation
equal_numbers M N = record { local = []; left = M; right = N; of_type = nat }

-- plus-s : plus X Y Z -> plus (s X) Y (s Z), with X, Y and Z free: each is a metavariable of the type nat. There is no equation.
abbrev pub three_numbers : State
three_numbers = with_metavariable [] nat (with_metavariable [] nat (with_metavariable [] nat nothing_yet))

abbrev pub written_plus : Written → Written → Written → WrittenType
written_plus M N P = family_applied (family_applied (family_applied (family 3 anywhere) M) N) P

abbrev pub PlusSuccessorIsElaborated : Type 0
PlusSuccessorIsElaborated =
    NewFrees entries (base 0 ∷ base 0 ∷ base 0 ∷ []) nothing_yet three_numbers (0 ∷ 1 ∷ 2 ∷ [])
    × ElaboratesType entries (0 ∷ 1 ∷ 2 ∷ []) [] (arrow (written_plus (free 0 anywhere) (free 1 anywhere) (free 2 anywhere)) (written_plus (applied (declared 2 anywhere) (free 0 anywhere)) (free 1 anywhere) (applied (declared 2 anywhere) (free 2 anywhere)))) three_numbers three_numbers
    (pi (plus (meta 0) (meta 1) (meta 2)) (plus (successor (meta 0)) (meta 1) (successor (meta 2))))

-- full (vcons z W), with W free. W is metavariable 1 of the type vec 0, the argument of full that isn't written is 2, and that of vcons is 3.
-- W has the type vec 0 and is expected to have vec 3; and vcons 3 z W has the type vec (s 3) and is expected to have vec 2.
abbrev pub one_vector : State
one_vector = with_metavariable [] (vec (meta 0)) (with_metavariable [] nat nothing_yet)

abbrev pub full_behind : State
full_behind = with_equations (equal_numbers (meta 0) (meta 3) ∷ equal_numbers (successor (meta 3)) (meta 2) ∷ []) (with_metavariable [] nat (with_metavariable [] nat one_vector))

abbrev pub FullIsElaborated : Type 0
FullIsElaborated =
    NewFrees entries (base 4 ∷ []) nothing_yet one_vector (1 ∷ [])
    × ElaboratesType entries (1 ∷ []) [] (family_applied (family 6 anywhere) (applied (applied (declared 5 anywhere) (declared 1 anywhere)) (free 0 anywhere))) one_vector full_behind (full (meta 2) (vcons (meta 3) z (meta 1)))

-- Without the second equation it isn't what is left, whatever the type.
abbrev pub full_unequated : State
full_unequated = with_equations (equal_numbers (meta 0) (meta 3) ∷ []) (with_metavariable [] nat (with_metavariable [] nat one_vector))

abbrev pub EquationsAreAll : Type 0
EquationsAreAll = (A : LfType) → ElaboratesType entries (1 ∷ []) [] (family_applied (family 6 anywhere) (applied (applied (declared 5 anywhere) (declared 1 anywhere)) (free 0 anywhere))) one_vector full_unequated A → ⊥

-- vec z is compared with itself without an equation, and with vec 0, whose length is a metavariable, with one.
abbrev pub SameHasNoEquation : Type 0
SameHasNoEquation =
    (type_equations (signature_of entries) [] (vec z) (vec z) ≡ [])
    × (type_equations (signature_of entries) [] (vec z) (vec (meta 0)) ≡ equal_numbers z (meta 0) ∷ [])

-- {x:nat} map ([y] _): the hole is a metavariable over x and y. And map s: the constant is made eta-long.
abbrev pub over_two : State
over_two = with_metavariable (nat ∷ nat ∷ []) nat nothing_yet

abbrev pub HoleIsRaised : Type 0
HoleIsRaised = ElaboratesType entries [] [] (quantified (of_skeleton (base 0) anywhere) (family_applied (family 7 anywhere) (function (of_skeleton (base 0) anywhere) (hole (base 0) anywhere)))) nothing_yet over_two
    (pi nat (maps (lambda (root (metavariable 0) (app (place 1) (app (place 0) nil))))))

abbrev pub ShortIsExpanded : Type 0
ShortIsExpanded = ElaboratesType entries [] [] (family_applied (family 7 anywhere) (declared 2 anywhere)) nothing_yet nothing_yet (maps (lambda (successor (place 0))))

-- a definition stands for its term; [x] x on it is reduced
abbrev pub DefinitionIsExpanded : Type 0
DefinitionIsExpanded = Infers entries [] [] (applied (function (of_skeleton (base 0) anywhere) (bound 0)) (declared 8 anywhere)) nothing_yet nothing_yet (successor z) nat

-- a kind: vec _ -> type, where the hole is over nothing
abbrev pub KindIsElaborated : Type 0
KindIsElaborated = ElaboratesKind entries [] [] (kind_arrow (family_applied (family 4 anywhere) (hole (base 0) anywhere)) written_star) nothing_yet (with_metavariable [] nat nothing_yet) (kind_pi (vec (meta 0)) star)

-- c : vec X. With z for X it is completed, and not principally: the completion with a quantifier for X is no instance of it.
abbrev pub with_number : Completion
with_number = record { quantifiers = []; frees = record { term = z; of_type = nat } ∷ []; body = declare_constant (vec z) }

abbrev pub NumberIsNotPrincipal : Type 0
NumberIsNotPrincipal = IsCompletion entries (base 0 ∷ []) (written_constant (family_applied (family 4 anywhere) (free 0 anywhere))) with_number × (IsPrincipal entries (base 0 ∷ []) (written_constant (family_applied (family 4 anywhere) (free 0 anywhere))) with_number → ⊥)

-- Places: by column, in the first line.
abbrev pub column : ℕ → Place
column n = record { line = 1; column = n }

-- c : vec _ <- full W, which is full W -> vec _. The type of W is vec 0, and W is 1; the argument of full that isn't written is 2, and the hole is 3.
abbrev pub written_backward : WrittenBody
written_backward = written_constant (arrow (family_applied (family 6 (column 14)) (free 0 (column 19))) (family_applied (family 4 (column 5)) (hole (base 0) (column 9))))

abbrev pub BackwardHasSites : Type 0
BackwardHasSites = AreSites entries (base 4 ∷ []) written_backward (3 ∷ 2 ∷ 0 ∷ 1 ∷ [])

-- i = [x] x: the type of x, a vector, leaves its length open. At the type vec z -> vec z it does so too, and an equation says what the length is.
abbrev pub written_identity : Written
written_identity = function (of_skeleton (base 4) (column 5)) (bound 0)

abbrev pub vec_z : WrittenType
vec_z = family_applied (family 4 (column 5)) (declared 1 (column 9))

abbrev pub UntypedHasSite : Type 0
UntypedHasSite = AreSites entries [] (written_definition written_identity false) (0 ∷ []) × AreSites entries [] (written_definition_of written_identity (arrow vec_z vec_z) false) (0 ∷ [])

-- c : plus Y X X <- vec Y, where X is free variable 0 and Y is 1
abbrev pub FreesInOrder : Type 0
FreesInOrder = AreFreesInOrder (written_constant (arrow (family_applied (family 4 (column 19)) (free 1 (column 23))) (written_plus (free 1 (column 10)) (free 0 (column 12)) (free 0 (column 14))))) 2 (1 ∷ 0 ∷ [])
