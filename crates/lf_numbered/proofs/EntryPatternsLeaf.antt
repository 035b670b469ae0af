-- A case with block variables by number that is an instance of a pattern: what it holds, the pattern covers.
use Rattle.lf_numbered.specs.EntryPatternsLaws.{NumberedLeafIsCovered}
use Rattle.lf_numbered.proofs.SharedPattern.{pattern_at}
pub use Rattle.lf_numbered.proofs.SharedPattern.{given_read}

pub numbered_leaf_is_covered : NumberedLeafIsCovered
numbered_leaf_is_covered Σ ok W typed S first free ps C leaf Σ' x G w F σ0 T h =
    let s = leaf.is_instance in
    let (t, o) = pattern_at Σ Σ' ok S x W typed first free C leaf.typed.variables w h.instances h.values h.is_ground leaf.pattern leaf.pattern_typed (record { used = s.used; values = s.values; typed = s.typed; on_own_terms = s.on_own_terms; uses = s.uses; terms = s.terms; given = s.given; stands = s.stands; same = s.same }) leaf.same_length leaf.given_own F h.zeroth σ0 h.given T h.has_arguments in
    (leaf.pattern, leaf.listed, record { outer = t.outer; stands = t.stands; used = t.used; outside_used = o; uses = t.uses; strict = s.strict; values = t.values; typed = t.typed; agrees = t.agrees; given = t.given; terms = t.terms; same = t.same })
