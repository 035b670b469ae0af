use Rattle.std.proofs.Common.{◌≡◌, Err, Ok, map, refl, rules, subst, sym}
use Rattle.lf.specs.Constants.{constants_of}
use Rattle.lf.specs.Entries.{signature_of}
use Rattle.lf_checks.specs.Clauses.{block_clauses, clauses_of, constant_clauses}
use Rattle.tw_clause.specs.View.{block_of, worlds_of}
use Rattle.tw_world.specs.Checks.{Checked}
use Rattle.tw_world.proofs.Checked.{ends, goes_on}
use Rattle.tw_world.proofs.check.check_family.Goals as goal

pub returns-in_err-check_constants : goal.returns-in_err-check_constants
returns-in_err-check_constants c =
    let x = c.args.check.now in
    let es = x.sig.now in
    let W = worlds_of x.worlds.now in
    let a = c.args.family.0 in
    let types = (signature_of es).types in
    let f = c.in_err-check_constants.field-0.0 in
    let e : c.from_residual.result ≡ Err f = search rules in
    subst (Checked x (clauses_of es W a)) (sym e) (ends x (constant_clauses types (constants_of es a)) (block_clauses W a) (clauses_of es W a) f refl (subst (λ ks. Checked x (constant_clauses types ks) (Err f)) c.constants_of.ensures c.in_err-check_constants.ensures))

pub returns : goal.returns
returns c =
    let x = c.args.check.now in
    let es = x.sig.now in
    let W = worlds_of x.worlds.now in
    let a = c.args.family.0 in
    let types = (signature_of es).types in
    goes_on x (constant_clauses types (constants_of es a)) (block_clauses W a) (clauses_of es W a) tt c.check_blocks.result refl
    (subst (λ ks. Checked x (constant_clauses types ks) (Ok tt)) c.constants_of.ensures c.in_ok-check_constants.ensures)
    (subst (λ bs. Checked x (block_clauses (map block_of bs) a) c.check_blocks.result) c.deref.ensures.value c.check_blocks.ensures)
