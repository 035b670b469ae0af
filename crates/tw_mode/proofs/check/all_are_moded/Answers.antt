use Rattle.std.proofs.Common.{◌≡◌, ◌+◌, Err, Ok, arith, drop, rules, subst, sym}
use Rattle.std.proofs.Math.ListN.{drop_of_length-le}
use Rattle.lf.specs.Entries.{signature_of}
use Rattle.tw_clause.specs.View.{worlds_of}
use Rattle.tw_mode.specs.Groups.{FaultsOutcome}
use Rattle.tw_mode.specs.Listing.{clause_at, listed_clauses}
use Rattle.tw_mode.specs.Rows.{marks_in, moded_in}
use Rattle.tw_mode.proofs.Grouping.{faults_end, faults_go_on}
use Rattle.tw_mode.proofs.Listing.{listed_next}
use Rattle.tw_mode.proofs.check.all_are_moded.Goals as goal

pub returns-in_err-is_moded : goal.returns-in_err-is_moded
returns-in_err-is_moded c =
    let es = c.args.sig.now in
    let Σ = signature_of es in
    let m = marks_in c.args.table.now in
    let W = worlds_of c.args.worlds.now in
    let M = moded_in c.args.table.now in
    let xs = c.args.listed.now in
    let k = c.loop-next.next in
    let f = c.in_err-is_moded.field-0.0 in
    let e : c.from_residual.result ≡ Err f = search rules in
    subst (FaultsOutcome Σ m M (listed_clauses es W xs)) (sym e)
    (c.loop-next.invariant (Err f) (subst (λ cs. FaultsOutcome Σ m M cs (Err f)) (sym (listed_next es W xs k c.nth_listed-at.result c.nth_listed-at.ensures)) (faults_end Σ m M (clause_at es W c.nth_listed-at.result) (listed_clauses es W (drop (k + 1) xs)) f c.in_err-is_moded.ensures)))

pub loop-next-preserved : goal.loop-next-preserved
loop-next-preserved c = λ r h.
    let es = c.args.sig.now in
    let Σ = signature_of es in
    let m = marks_in c.args.table.now in
    let W = worlds_of c.args.worlds.now in
    let M = moded_in c.args.table.now in
    let xs = c.args.listed.now in
    let k = c.loop-next.next in
    c.loop-next.invariant r (subst (λ cs. FaultsOutcome Σ m M cs r) (sym (listed_next es W xs k c.nth_listed-at.result c.nth_listed-at.ensures)) (faults_go_on Σ m M (clause_at es W c.nth_listed-at.result) (listed_clauses es W (drop (k + 1) xs)) tt r c.in_ok-is_moded.ensures h))

pub returns : goal.returns
returns c =
    let es = c.args.sig.now in
    let Σ = signature_of es in
    let m = marks_in c.args.table.now in
    let W = worlds_of c.args.worlds.now in
    let M = moded_in c.args.table.now in
    let xs = c.args.listed.now in
    c.loop-next.invariant (Ok tt) (subst (λ ys. FaultsOutcome Σ m M (listed_clauses es W ys) (Ok tt)) (sym (drop_of_length-le xs (omega arith))) tt)
