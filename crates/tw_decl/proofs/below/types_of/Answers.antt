use Rattle.std.proofs.Common.{◌≡◌, ◌∷◌, ◌++◌, ◌∙◌, ◌<◌, [], Some, option_map, length, sym, ap, map, arith}
use Rattle.std.specs.Prelude.{slice_get}
use Rattle.std.proofs.lemmas.List.{map-append}
use Rattle.tw_terms.specs.View.{type_of}
use Rattle.tw_decl.proofs.Alone.{one_more}
use Rattle.tw_decl.proofs.below.types_of.Goals as goal

pub loop-next-preserved : goal.loop-next-preserved
loop-next-preserved c =
    let n = c.loop-next.next in
    let A = type_of c.in-Some.ty.now in
    let found : slice_get c.args.entries.now n ≡ Some A = sym c.get.ensures ∙ ap (option_map (λ a. type_of a.now)) c.in-Some.is in
    let before : n < length c.args.entries.now = grind (arith) in
    let pushed : map type_of c.push.new.self.items ≡ map type_of c.loop-next.types.items ++ A ∷ [] =
    ap (map type_of) c.in_ok-push.ensures.items ∙ map-append type_of c.loop-next.types.items (c.in_ok-copy.field-0 ∷ []) ∙ ap (λ B. map type_of c.loop-next.types.items ++ B ∷ []) c.in_ok-copy.ensures in
    record {
      bounded = omega arith;
      so_far = pushed ∙ ap (λ Bs. Bs ++ A ∷ []) c.loop-next.invariant.so_far ∙ sym (one_more c.args.entries.now n A before found);
    }
