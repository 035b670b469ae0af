use Rattle.std.proofs.Common.{◌≡◌, Err, get_or, refl, rules}
use Rattle.tw_abstract.proofs.Loops.{next_site, site_blamed}
use Rattle.tw_abstract.proofs.finding.note_sites.Goals as goal

pub returns-in_err-note_site-clause-noted : goal.returns-in_err-note_site-clause-noted
returns-in_err-note_site-clause-noted c =
    let f = c.in_err-note_site.field-0.0 in
    let x = get_or c.args.sites.now c.loop-site.site-index record { 0 = 0 } in
    let q : c.from_residual.result ≡ Err f = search rules in
    rw q (site_blamed c.args.store.now.now f c.args.sites.now c.loop-site.site-index record { 0 = 0 } x c.loop-site-test.true refl c.in_err-note_site.ensures.noted)

pub loop-site-preserved : goal.loop-site-preserved
loop-site-preserved c =
    let x = get_or c.args.sites.now c.loop-site.site-index record { 0 = 0 } in
    record {
      noted = next_site c.args.store.now.now c.args.sites.now c.loop-site.site-index record { 0 = 0 } x c.args.found.now c.loop-site.found c.note_site.new.found c.loop-site-test.true refl c.loop-site.invariant.noted c.in_ok-note_site.ensures.noted;
      unbound = c.in_ok-note_site.ensures.unbound;
    }
