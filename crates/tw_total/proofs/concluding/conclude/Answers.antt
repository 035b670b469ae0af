use Rattle.std.proofs.Common.{◌<◌, ◌++◌, ◌∷◌, ◌∙◌, ◌↔◌, [], ℕ, Contains, ap, length, map, subst}
use Rattle.lf.specs.Entries.{signature_of}
use Rattle.lf.specs.Subordination.{Below}
use Rattle.lf.proofs.Entries.{canonical_is_signature}
use Rattle.lf_checks.specs.ModeRows.{marks_of}
use Rattle.lf_totality.specs.Record.{IsRecordOf, blocks_of}
use Rattle.lf_totality.proofs.Checks.{checks_conclude}
use Rattle.tw_clause.specs.Tables.{mode_rows_of}
use Rattle.tw_clause.specs.View.{worlds_of}
use Rattle.tw_subord.specs.Rows.{row}
use Rattle.tw_subord.specs.View.{worlds_of_types}
use Rattle.tw_subord.proofs.Direct.{declared_within}
use Rattle.tw_total.specs.View.{checked_of, families_of, order_for, order_row_of, records_of}
use Rattle.tw_total.proofs.Making.{entry_there, front, record_made}
use Rattle.tw_total.proofs.Within.{entry_target_within}
use Rattle.tw_total.proofs.concluding.conclude.Goals as goal

the_record : (c : goal.After-drop-blocks-2) → IsRecordOf (signature_of c.args.signature.now) (families_of (map order_row_of c.args.group.now)) (marks_of (mode_rows_of c.args.modes.now)) (worlds_of c.args.worlds.now) (records_of c.args.totals.now) (checked_of (record { families = c.in_ok-families.field-0; modes = c.in_ok-copy.field-0; worlds = c.in_ok-copy-2.field-0; below = c.in_ok-below.below; frozen = c.in_ok-frozen.frozen; order = c.in_ok-copy_group.field-0 }))
the_record c =
    let es = c.args.signature.now in
    let group = families_of (map order_row_of c.args.group.now) in
    let W = worlds_of c.args.worlds.now in
    let totals = records_of c.args.totals.now in
    let seen = c.in_ok-entries_seen.field-0 in
    let s = c.in_ok-subord.subord in
    let passed = c.requires.passed.2 in
    let blocks = c.deref.ensures.value ∙ (c.in_ok-push.ensures.items ∙ ap (λ xs. xs ++ seen ∷ []) c.new-blocks.ensures.items) in
    record_made es group (marks_of (mode_rows_of c.args.modes.now)) W totals seen s c.in_ok-entries_seen.ensures
    (subst (λ bs. (a b : ℕ) → b < length es → (Contains (row s b) a) ↔ Below (signature_of es) (worlds_of_types bs) a b) blocks c.in_ok-subord.ensures.listed)
    (λ f m. let k = passed.marked f m in declared_within es f k.0.0 k.0.1)
    (λ E m. let r = entry_there W E m in entry_target_within es r.0 E (passed.blocks_typed r.0 (front r.0 W (blocks_of totals) r.1)) r.2)
    (record { families = c.in_ok-families.field-0; modes = c.in_ok-copy.field-0; worlds = c.in_ok-copy-2.field-0; below = c.in_ok-below.below; frozen = c.in_ok-frozen.frozen; order = c.in_ok-copy_group.field-0 })
    c.in_ok-families.ensures (ap marks_of c.in_ok-copy.ensures) c.in_ok-copy-2.ensures c.in_ok-below.ensures c.in_ok-frozen.ensures

pub returns-clause-record : goal.returns-clause-record
returns-clause-record c = the_record c

pub returns-clause-checked : goal.returns-clause-checked
returns-clause-checked c =
    let rows = map order_row_of c.args.group.now in
    let es = c.args.signature.now in
    (checks_conclude (signature_of es) (canonical_is_signature es c.is_canonical.ensures) (families_of rows) (marks_of (mode_rows_of c.args.modes.now)) (worlds_of c.args.worlds.now) (order_for rows) (records_of c.args.totals.now)
    c.requires.passed.0 c.requires.passed.1 c.requires.passed.2 c.requires.below _ (the_record c)).0

pub returns-clause-right : goal.returns-clause-right
returns-clause-right c =
    let rows = map order_row_of c.args.group.now in
    let es = c.args.signature.now in
    (checks_conclude (signature_of es) (canonical_is_signature es c.is_canonical.ensures) (families_of rows) (marks_of (mode_rows_of c.args.modes.now)) (worlds_of c.args.worlds.now) (order_for rows) (records_of c.args.totals.now)
    c.requires.passed.0 c.requires.passed.1 c.requires.passed.2 c.requires.below _ (the_record c)).1
