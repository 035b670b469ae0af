-- The declarations of these tests.
use Rattle.std.specs.Prelude.{ℕ, List, [], ◌∷◌, Option, None}
use Rattle.lf.specs.Syntax.{constant, variable, Term, root, nil, app, LfType, Kind, pi, atom, kind_pi, star}
use Rattle.lf.specs.Entries.{Entry, Body, declare_family, declare_constant}

-- e : type. c : e. t : type. ok : e -> type. ok-c : ok c. yes : e -> type. yes-c : yes X <- ok X. Their numbers are 0 to 6.
abbrev pub e_type : LfType
e_type = atom 0 nil

abbrev pub t_type : LfType
t_type = atom 2 nil

abbrev pub c_term : Term
c_term = root (constant 1) nil

-- e -> type, and a family of this kind at a term
abbrev pub predicate_kind : Kind
predicate_kind = kind_pi e_type star

abbrev pub on : ℕ → Term → LfType
on a M = atom a (app M nil)

abbrev pub ok_c_type : LfType
ok_c_type = on 3 c_term

abbrev pub yes_c_type : LfType
yes_c_type = pi e_type (pi (on 3 (root (variable 0) nil)) (on 5 (root (variable 1) nil)))

-- an entry without implicit arguments, and so many entries, the newest in front
abbrev pub plain : List ℕ → Body → List (Option (List ℕ)) → Entry
plain name body hints = record { name = name; body = body; implicit = 0; hints = hints }

abbrev pub first : List Entry
first = plain (101 ∷ []) (declare_family star) [] ∷ []

abbrev pub first_two : List Entry
first_two = plain (99 ∷ []) (declare_constant e_type) [] ∷ first

abbrev pub first_three : List Entry
first_three = plain (116 ∷ []) (declare_family star) [] ∷ first_two

abbrev pub first_four : List Entry
first_four = plain (111 ∷ 107 ∷ []) (declare_family predicate_kind) (None ∷ []) ∷ first_three

abbrev pub first_five : List Entry
first_five = plain (111 ∷ 107 ∷ 45 ∷ 99 ∷ []) (declare_constant ok_c_type) [] ∷ first_four

abbrev pub first_six : List Entry
first_six = plain (121 ∷ 101 ∷ 115 ∷ []) (declare_family predicate_kind) (None ∷ []) ∷ first_five

abbrev pub declared : List Entry
declared = plain (121 ∷ 101 ∷ 115 ∷ 45 ∷ 99 ∷ []) (declare_constant yes_c_type) (None ∷ None ∷ []) ∷ first_six
