use Rattle.std.proofs.Common.{◌≡◌, false, map, reverse, rules, subst, true}
use Rattle.lf.specs.Entries.{signature_of}
use Rattle.tw_approx.specs.Answer.{rows_of}
use Rattle.tw_parse.specs.View.{term_of}
use Rattle.tw_signature.specs.View.{body_of}
use Rattle.tw_terms.specs.View.{type_of}
use Rattle.tw_written.specs.View.{written_body_of}
use Rattle.tw_recon.specs.Queries.{IsCanonicalGoal}
use Rattle.tw_recon.specs.Reconstruction.{IsCompletedTo}
use Rattle.tw_recon.proofs.Asking.{constant_body, goal_canonical, goal_deep, goal_is_type, goal_stops}
use Rattle.tw_recon.proofs.query.reconstruct_query.Goals as goal

pub unreachable-requires : goal.unreachable-requires
unreachable-requires c =
    let m = c.in-Ok-complete.completed in
    let (C, e) = goal_is_type c.args.signature.now (term_of c.args.query.now.goal) (rows_of c.in-Ok.told.rows.items) (written_body_of c.in-Ok.told.written) m.quantifiers m.hints.items m.shown.items (body_of m.body) c.in-Ok.ensures.written c.in-Ok-complete.ensures.completed in
    constant_body m.body C e c.in_default.not-Constant

pub returns-then-not-is_within-clause-refused : goal.returns-then-not-is_within-clause-refused
returns-then-not-is_within-clause-refused c =
    let es = c.args.signature.now in
    let rows = rows_of c.in-Ok.told.rows.items in
    let w = written_body_of c.in-Ok.told.written in
    let m = c.in-Ok-complete.completed in
    let no : c.is_within.result ≡ false = search rules in
    goal_deep es (term_of c.args.query.now.goal) rows w m.quantifiers m.hints.items m.shown.items (type_of c.in-Constant.goal) c.in-Ok.ensures.written
    (subst (λ b. IsCompletedTo es rows w m.quantifiers m.hints.items m.shown.items (body_of b)) c.in-Constant.is c.in-Ok-complete.ensures.completed) (c.is_within.ensures.deep no)

pub returns-clause-canonical : goal.returns-clause-canonical
returns-clause-canonical c =
    let es = c.args.signature.now in
    let rows = rows_of c.in-Ok.told.rows.items in
    let w = written_body_of c.in-Ok.told.written in
    let m = c.in-Ok-complete.completed in
    let T = type_of c.in-Constant.goal in
    let yes : c.is_within.result ≡ true = search rules in
    let turned : c.reverse.new.self.items ≡ reverse m.hints.items = search rules in
    let variables : m.quantifiers ≡ reverse (map type_of c.quantifiers.inside.types.items) = search rules in
    let completed = subst (λ b. IsCompletedTo es rows w m.quantifiers m.hints.items m.shown.items (body_of b)) c.in-Constant.is c.in-Ok-complete.ensures.completed in
    subst (λ G. IsCanonicalGoal (signature_of es) (record { variables = G; names = c.reverse.new.self.items; shown = m.shown.items; proof = c.in_ok-copy_option.field-0; goal = T })) variables
    (goal_canonical es rows w m.quantifiers m.hints.items c.reverse.new.self.items m.shown.items T c.in_ok-copy_option.field-0 completed turned (c.is_within.ensures.context yes) (c.is_within.ensures.goal yes))

pub returns-in-Err-complete-clause-refused : goal.returns-in-Err-complete-clause-refused
returns-in-Err-complete-clause-refused c =
    goal_stops c.args.signature.now (term_of c.args.query.now.goal) (rows_of c.in-Ok.told.rows.items) (written_body_of c.in-Ok.told.written) c.in-Err-complete.fault c.in-Ok.ensures.written c.in-Err-complete.ensures.refused
