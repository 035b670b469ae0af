-- The code of a view, by which a session's value may be one.
use Rattle.std.specs.Prelude.{ℕ, Bool, List, refl}
use Rattle.std.specs.Coded.{Coded, code_by, coded×, coded_list, coded_ℕ, coded_bool}
use Rattle.std.specs.FinMap as map
use Rattle.std.specs.Ordering.{nat_cmp}
use Rattle.lf.specs.Entries.{Entry}
use Rattle.lf.specs.Subordination.{Block}
use Rattle.lf.specs.Syntax.{LfType}
use Rattle.tw_fixity.specs.Rows.{name_code, fix_code}
use Rattle.tw_parse.specs.Outlines.{Table}
use Rattle.tw_print.specs.Names.{Preferences}
use Rattle.tw_print.specs.View.{preference_code}
use Rattle.tw_signature.specs.Codes.{entry_code}
use Rattle.lf_checks.specs.Marks.{Mark}
use Rattle.lf_checks.specs.WorldFaults.{WorldRow}
use Rattle.tw_terms.specs.Codes.{type_code}
use Rattle.tw_mode.specs.ModeTables.{marks_code}
use Rattle.tw_decl.specs.View.{Checked, View}
use Rattle.tw_decl.specs.declared.parameters.Parameters.{Parameters}

abbrev pub parameters_code : Coded Parameters
parameters_code = code_by (ℕ × (Bool × ℕ)) (coded× coded_ℕ (coded× coded_bool coded_ℕ)) (λ p. (p.chatter, (p.implicit, p.steps))) (λ q. record { chatter = q.0; implicit = q.1.0; steps = q.1.1 }) (λ p. refl)

abbrev pub block_code : Coded Block
block_code =
    code_by (List ℕ × (List LfType × List LfType)) (coded× (coded_list coded_ℕ) (coded× (coded_list type_code) (coded_list type_code)))
    (λ b. (b.label, (b.some, b.entries))) (λ p. record { label = p.0; some = p.1.0; entries = p.1.1 }) (λ b. refl)

abbrev pub world_row_code : Coded WorldRow
world_row_code = code_by (ℕ × List Block) (coded× coded_ℕ (coded_list block_code)) (λ r. (r.family, r.blocks)) (λ p. record { family = p.0; blocks = p.1 }) (λ r. refl)

abbrev pub checked_code : Coded Checked
checked_code =
    code_by (map.FinMap nat_cmp (List Mark) × (List Block × List WorldRow)) (coded× (map.code coded_ℕ marks_code) (coded× (coded_list block_code) (coded_list world_row_code)))
    (λ c. (c.modes, (c.blocks, c.worlds))) (λ p. record { modes = p.0; blocks = p.1.0; worlds = p.1.1 }) (λ c. refl)

abbrev pub view_code : Coded View
view_code =
    code_by (List Entry × (Table × (map.FinMap nat_cmp Preferences × (Checked × (Parameters × List (List ℕ))))))
    (coded× (coded_list entry_code) (coded× (map.code name_code fix_code) (coded× (map.code coded_ℕ preference_code) (coded× checked_code (coded× parameters_code (coded_list (coded_list coded_ℕ)))))))
    (λ v. (v.signature, (v.fixities, (v.names, (v.checked, (v.parameters, v.config))))))
    (λ p. record { signature = p.0; fixities = p.1.0; names = p.1.1.0; checked = p.1.1.1.0; parameters = p.1.1.1.1.0; config = p.1.1.1.1.1 }) (λ v. refl)
