use Rattle.std.proofs.Common.{◌≡◌, ◌≤◌, ◌+◌, suc, [], ◌∷◌, ap, ◌∙◌, arith, rules}
use Rattle.std.proofs.lemmas.List.{map-append}
use Rattle.tw_written.specs.SiteView.{site_of, sites_of}
use Rattle.tw_written.specs.View.{place_of}
use Rattle.tw_written.proofs.Growing.{site_added}
use Rattle.tw_written.proofs.order.add_spot.Goals as goal

pub loop-number-preserved : goal.loop-number-preserved
loop-number-preserved c =
    let l : c.args.first ≤ c.loop-number.number = first_of (search rules, omega (arith, c.loop-number.auto.number)) in
    let n : c.loop-number.number + 1 ≡ suc c.loop-number.number = omega arith in
    site_added (sites_of c.args.sites.now.items) (sites_of c.loop-number.sites.items) (sites_of c.push.new.self.items) (site_of c.new.result) (place_of c.in-Some.at) c.args.first c.loop-number.number (c.loop-number.number + 1) l n c.new.ensures (ap sites_of c.in_ok-push.ensures.items ∙ map-append site_of c.loop-number.sites.items (c.new.result ∷ [])) c.loop-number.invariant
