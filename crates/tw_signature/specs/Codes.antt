-- The code of an entry, by which a value of a type with a Model may hold entries.
use Rattle.std.specs.Prelude.{◌≡◌, ℕ, List, Option, Bool, true, false, refl}
use Rattle.std.specs.Coded.{Coded, code_by, coded×, coded_ℕ, coded_list, coded_option}
use base.Stored.{Gv, gnil, gnum, gcons}
use mathlib.Core.Path.{ap}
use Rattle.lf.specs.Entries.{Body, Entry, declare_family, declare_constant, declare_definition}
use Rattle.tw_terms.specs.Codes.{code_of_term, code_of_type, code_of_kind, term_code_injective, type_code_injective, kind_code_injective}

abbrev pub code_of_flag : Bool → Gv
code_of_flag true = gnum 1
code_of_flag false = gnil

pub flag_code_injective : (a b : Bool) → code_of_flag a ≡ code_of_flag b → a ≡ b
flag_code_injective true true e = refl
flag_code_injective true false e = cc
flag_code_injective false true e = cc
flag_code_injective false false e = refl

abbrev pub code_of_body : Body → Gv
code_of_body (declare_family K) = gcons (gnum 0) (code_of_kind K)
code_of_body (declare_constant A) = gcons (gnum 1) (code_of_type A)
code_of_body (declare_definition M A b) = gcons (gnum 2) (gcons (code_of_flag b) (gcons (code_of_term M) (code_of_type A)))

pub body_code_injective : (b c : Body) → code_of_body b ≡ code_of_body c → b ≡ c
body_code_injective (declare_family K) (declare_family L) e = ap declare_family (kind_code_injective K L cc)
body_code_injective (declare_family K) (declare_constant B) e = cc
body_code_injective (declare_family K) (declare_definition N B b) e = cc
body_code_injective (declare_constant A) (declare_family L) e = cc
body_code_injective (declare_constant A) (declare_constant B) e = ap declare_constant (type_code_injective A B cc)
body_code_injective (declare_constant A) (declare_definition N B b) e = cc
body_code_injective (declare_definition M A a) (declare_family L) e = cc
body_code_injective (declare_definition M A a) (declare_constant B) e = cc
body_code_injective (declare_definition M A a) (declare_definition N B b) e =
    let same = term_code_injective M N cc in let rest = type_code_injective A B cc in let flag = flag_code_injective a b cc in cc (same, rest, flag)

abbrev pub body_code : Coded Body
body_code = record { code = code_of_body; inj = body_code_injective }

abbrev pub entry_code : Coded Entry
entry_code =
    code_by (List ℕ × (Body × (ℕ × List (Option (List ℕ))))) (coded× (coded_list coded_ℕ) (coded× body_code (coded× coded_ℕ (coded_list (coded_option (coded_list coded_ℕ))))))
    (λ e. (e.name, (e.body, (e.implicit, e.hints)))) (λ p. record { name = p.0; body = p.1.0; implicit = p.1.1.0; hints = p.1.1.1 }) (λ e. refl)
