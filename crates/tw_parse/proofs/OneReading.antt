-- What is read has one meaning, and no sequence at fault.
use Rattle.std.proofs.Common.{◌≡◌, List, [], ◌∷◌, ◌++◌, map, None, Some, refl, sym, ap, ◌∙◌, subst}
use Rattle.tw_lexer.specs.declared.place.Place.{Place}
use Rattle.tw_parse.specs.Grammar.{Item, atom, Reads, ReadsOnce, bound}
use Rattle.tw_parse.specs.Failing.{is_item}
use Rattle.tw_parse.specs.Faults.{Ends}
use Rattle.tw_parse.specs.Laws.{ReadingIsUnique, QueryIsUnique}
use Rattle.tw_parse.specs.Outlines.{Table, Outline, Nodes, Node}
use Rattle.tw_parse.specs.Queries.{Query, asked, goal_tokens}
use Rattle.tw_parse.specs.Readings.{Means, means, Lists, no_items, one_item, IsItem, a_leaf, a_mark, a_group, a_binding, a_typed_binding, MeansAll, declared, defined, defined_typed, preferred, given, sign_in, marks, FirstFault, here, inside, FaultAmong, earlier, last, FaultWithin, in_group, in_body, in_domain, in_typed_body, FirstFaultOf, of_first, of_later}
use Rattle.tw_parse.specs.Syntax.{Term, untyped, typed, DeclarationOf, Declaration, declare, define}
use Rattle.tw_parse.proofs.Building.{item_mark, signs_grow}
use Rattle.tw_parse.specs.Words.{Lexeme}
use Rattle.tw_parse.proofs.OneDeclaration.{one_outline}
use Rattle.tw_parse.proofs.OneOutline.{SameSequence, sequence_once}

-- One meaning

once : (items others : List Item) (M N : Term) → items ≡ others → ReadsOnce items M → ReadsOnce others N → M ≡ N
once items others M N e r q = q.1 r.0.0 M (subst (λ (is : List Item). Reads r.0.0 is M) e r.0.1)

one_further : (items others : List Item) (i j : Item) → items ≡ others → i ≡ j → items ++ i ∷ [] ≡ others ++ j ∷ []
one_further items others i j e f = ap (λ (is : List Item). is ++ i ∷ []) e ∙ ap (λ (k : Item). others ++ k ∷ []) f

mutual
  means_once : {O : Outline} {M N : Term} → Means O M → Means O N → M ≡ N
  means_once (means {items = items} {M = M} l r) (means {items = others} {M = N} k q) = once items others M N (lists_once l k) r q

  lists_once : {row : Nodes} {items others : List Item} → Lists row items → Lists row others → items ≡ others
  lists_once no_items no_items = refl
  lists_once (one_item {items = items} {i = i} l h) (one_item {items = others} {i = j} k q) = one_further items others i j (lists_once l k) (item_once h q)

  item_once : {n : Node} {i j : Item} → IsItem n i → IsItem n j → i ≡ j
  item_once a_leaf a_leaf = refl
  item_once a_mark a_mark = refl
  item_once (a_group m) (a_group k) = ap atom (means_once m k)
  item_once (a_binding {binder = h} {x = x} {at = at} m) (a_binding k) = ap (λ (M : Term). atom (bound h x at untyped M)) (means_once m k)
  item_once (a_typed_binding {binder = h} {x = x} {at = at} {M = M} d m) (a_typed_binding {A = B} e k) = ap (λ (A : Term). atom (bound h x at (typed A) M)) (means_once d e) ∙ ap (λ (N : Term). atom (bound h x at (typed B) N)) (means_once m k)

all_once : {D : DeclarationOf Outline} {d e : Declaration} → MeansAll D d → MeansAll D e → d ≡ e
all_once (declared {x = x} {at = at} m) (declared k) = ap (declare x at) (means_once m k)
all_once (defined {name = name} {b = b} m) (defined k) = ap (λ (M : Term). define name None M b) (means_once m k)
all_once (defined_typed {name = name} {b = b} {M = M} u m) (defined_typed {A = B} v k) = ap (λ (A : Term). define name (Some A) M b) (means_once u v) ∙ ap (λ (N : Term). define name (Some B) N b) (means_once m k)
all_once preferred preferred = refl
all_once given given = refl

-- No fault

signs : {row : Nodes} {items : List Item} → Lists row items → map sign_in items ≡ marks row
signs no_items = refl
signs (one_item {row = row} {n = n} {items = items} {i = i} l h) = signs_grow row n items i (signs l) (item_mark n i h)

mutual
  no_fault : {O : Outline} {M : Term} {place : Place} → Means O M → FirstFault O place → ⊥
  no_fault (means {items = items} {M = M} l r) (here at_fault) = at_fault items (signs l) M r
  no_fault (means l r) (inside one f) = none_among l f

  none_among : {row : Nodes} {items : List Item} {place : Place} → Lists row items → FaultAmong row place → ⊥
  none_among no_items f = elim f [ ]
  none_among (one_item l h) (earlier f) = none_among l f
  none_among (one_item l h) (last c f) = none_within h f

  none_within : {n : Node} {i : Item} {place : Place} → IsItem n i → FaultWithin n place → ⊥
  none_within a_leaf f = elim f [ ]
  none_within a_mark f = elim f [ ]
  none_within (a_group m) (in_group f) = no_fault m f
  none_within (a_binding m) (in_body f) = no_fault m f
  none_within (a_typed_binding d m) (in_domain f) = no_fault d f
  none_within (a_typed_binding d m) (in_typed_body c f) = no_fault m f

no_first_fault : {D : DeclarationOf Outline} {d : Declaration} {place : Place} → MeansAll D d → FirstFaultOf D place → ⊥
no_first_fault (declared m) (of_first f) = no_fault m f
no_first_fault (declared m) (of_later c f) = elim f [ ]
no_first_fault (defined m) (of_first f) = no_fault m f
no_first_fault (defined m) (of_later c f) = elim f [ ]
no_first_fault (defined_typed u m) (of_first f) = no_fault u f
no_first_fault (defined_typed u m) (of_later c (of_first f)) = no_fault m f
no_first_fault (defined_typed u m) (of_later c (of_later d f)) = elim f [ ]
no_first_fault preferred f = elim f [ ]
no_first_fault given f = elim f [ ]

pub one_reading : ReadingIsUnique
one_reading table tokens d r = (
  λ e q. sym (all_once r.2 (subst (λ (D : DeclarationOf Outline). MeansAll D e) (sym (one_outline table tokens r.0 q.0 r.1 q.1)) q.2)),
  λ D place shapes fault. no_first_fault r.2 (subst (λ (E : DeclarationOf Outline). FirstFaultOf E place) (one_outline table tokens D r.0 shapes r.1) fault),
)

ends_once : (table : Table) (tokens : List Lexeme) (O P : Outline) → Ends table tokens O → Ends table tokens P → O ≡ P
ends_once table tokens O P e f =
    let same : SameSequence O P (e.0 ∷ []) (f.0 ∷ []) = sequence_once table e.2 P (f.0 ∷ []) f.2 (ap is_item e.1) (ap is_item f.1) in
    same.outlines

asked_once : (tokens : List Lexeme) (A B : Term) (q r : Query) → A ≡ B → asked tokens A ≡ Some q → asked tokens B ≡ Some r → r ≡ q
asked_once tokens A B q r e f g = let same : Some r ≡ Some q = sym g ∙ ap (asked tokens) (sym e) ∙ f in cc

pub one_query : QueryIsUnique
one_query table tokens q a =
    let same : (O : Outline) → Ends table (goal_tokens tokens) O → O ≡ a.0 = λ O e. ends_once table (goal_tokens tokens) O a.0 e a.1 in (
      λ r b. asked_once tokens a.2.0 b.2.0 q r (means_once a.2.1 (subst (λ (O : Outline). Means O b.2.0) (same b.0 b.1) b.2.1)) a.2.2 b.2.2,
      λ O place e fault. no_fault a.2.1 (subst (λ (P : Outline). FirstFault P place) (same O e) fault),
    )
