use Rattle.std.proofs.Common.{◌≤◌, ◌↔◌, ◌++◌, ◌∙◌, ℕ, Contains, length, arith, ap, sym, subst}
use Rattle.std.proofs.lemmas.List.{length-map}
use Rattle.lf.specs.Entries.{signature_of}
use Rattle.tw_subord.specs.Leads.{Leads}
use Rattle.tw_subord.specs.Pairs.{numbered_pairs, blocks_pairs, pairs_of}
use Rattle.tw_subord.specs.Rows.{row, rows_of}
use Rattle.tw_subord.proofs.Made.{no_rows, one_row_more, beyond}
use Rattle.tw_subord.proofs.Direct.{tells, leads_below, below_leads}
use Rattle.tw_subord.proofs.subord.Subord.of.Goals as goal

pub loop-family-init : goal.loop-family-init
loop-family-init c = no_rows (rows_of c.in_ok-links.links.items) c.in_ok-rows.rows.items c.in_ok-rows.ensures.items

pub loop-family-preserved : goal.loop-family-preserved
loop-family-preserved c =
    let n = c.loop-family.family in
    let v = c.in_ok-families_below.field-0 in
    one_row_more (rows_of c.in_ok-links.links.items) c.loop-family.rows.items c.push.new.self.items n v c.loop-family.invariant c.in_ok-push.ensures.items
    (subst (λ vs. (a : ℕ) → Contains v.items a ↔ Leads (rows_of vs) a n) c.deref-in-loop-family.ensures.value c.in_ok-families_below.ensures.families)
    c.in_ok-families_below.ensures.in_order

pub invariant_of-result : goal.invariant_of-result
invariant_of-result c = c.loop-family.invariant.2

pub returns-clause-decided : goal.returns-clause-decided
returns-clause-decided c =
    let links = c.in_ok-links.links.items in
    let rows = c.loop-family.rows.items in
    let i = c.loop-family.invariant in
    let m = length-map links (λ v. v.items) in
    let e = ap pairs_of c.deref.ensures.value ∙ c.in_ok-pairs.ensures in
    let all : length links ≤ c.loop-family.family = omega (arith, c.loop-family-test.false, c.len-family-end.ensures, c.in_ok-links.links.ok) in
    let none : c.loop-family.family ≤ length links = omega (arith, c.loop-family.auto.family-end, c.len-family-end.ensures, c.in_ok-links.links.ok) in
    tells c.args.signature.now c.args.blocks.now (rows_of links) (rows_of rows)
    (λ a b. let l = c.in_ok-links.ensures.linked a b in (λ h. subst (λ xs. Contains xs (a, b)) e (l.0 h), λ h. l.1 (subst (λ xs. Contains xs (a, b)) (sym e) h)))
    (λ a b l. i.1 a b (omega (arith, l, m, all)))
    (beyond links rows (omega (arith, i.0, all, none)))

pub returns-clause-listed : goal.returns-clause-listed
returns-clause-listed c a b l =
    let links = c.in_ok-links.links.items in
    let i = c.loop-family.invariant in
    let e = ap pairs_of c.deref.ensures.value ∙ c.in_ok-pairs.ensures in
    let linked : (a b : ℕ) → (Contains (row (rows_of links) b) a) ↔ Contains (numbered_pairs (signature_of c.args.signature.now) (length c.args.signature.now) ++ blocks_pairs c.args.blocks.now) (a, b) =
    λ x y. let k = c.in_ok-links.ensures.linked x y in (λ h. subst (λ xs. Contains xs (x, y)) e (k.0 h), λ h. k.1 (subst (λ xs. Contains xs (x, y)) (sym e) h))
    in
    let all : length links ≤ c.loop-family.family = omega (arith, c.loop-family-test.false, c.len-family-end.ensures, c.in_ok-links.links.ok) in
    let p = i.1 a b (omega (arith, l, all, c.in_ok-links.ensures.covers, c.len.ensures)) in
    (λ h. leads_below c.args.signature.now c.args.blocks.now (rows_of links) linked a b (p.0 h), λ h. p.1 (below_leads c.args.signature.now c.args.blocks.now (rows_of links) linked a b h))
