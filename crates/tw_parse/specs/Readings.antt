-- What outlines mean: each sequence is read as one term and no other.
use Rattle.std.specs.Prelude.{◌≡◌, ℕ, List, [], ◌∷◌, ◌++◌, Bool, Option, None, Some, map}
use Rattle.tw_fixity.specs.declared.table.Fix.{Fix}
use Rattle.tw_lexer.specs.declared.place.Place.{Place}
use Rattle.tw_parse.specs.Grammar.{Item, atom, sign, ReadsOnce, bound}
use Rattle.tw_parse.specs.Outlines.{Table, Outline, outline, Nodes, none, more, Node, leaf, mark, group, binding, typed_binding, Shapes}
use Rattle.tw_parse.specs.Syntax.{Term, untyped, typed, DeclarationOf, Declaration, declare, define, prefer, give}
use Rattle.tw_parse.specs.Words.{Lexeme}
use Rattle.tw_parse.specs.declared.words.Binder.{Binder}
use Rattle.tw_parse.specs.declared.sign.Sign.{Sign}
use Rattle.tw_parse.specs.declared.decl.ExtName.{ExtName}

mutual
  -- the outline is read as the term
  pub data Means : Outline → Term → Type 0 where
    means : {at : Place} {row : Nodes} {items : List Item} {M : Term} → Lists row items → ReadsOnce items M → Means (outline at row) M

  -- the nodes are these items
  pub data Lists : Nodes → List Item → Type 0 where
    no_items : Lists none []
    one_item : {row : Nodes} {n : Node} {items : List Item} {i : Item} → Lists row items → IsItem n i → Lists (more row n) (items ++ i ∷ [])

  pub data IsItem : Node → Item → Type 0 where
    a_leaf : {M : Term} → IsItem (leaf M) (atom M)
    a_mark : {s : Sign} → IsItem (mark s) (sign s)
    a_group : {O : Outline} {M : Term} → Means O M → IsItem (group O) (atom M)
    a_binding : {binder : Binder} {x : List ℕ} {at : Place} {O : Outline} {M : Term} → Means O M → IsItem (binding binder x at O) (atom (bound binder x at untyped M))
    a_typed_binding : {binder : Binder} {x : List ℕ} {at : Place} {D O : Outline} {A M : Term} → Means D A → Means O M → IsItem (typed_binding binder x at D O) (atom (bound binder x at (typed A) M))

-- the declaration, with its sequences read
pub data MeansAll : DeclarationOf Outline → Declaration → Type 0 where
  declared : {x : List ℕ} {at : Place} {U : Outline} {A : Term} → Means U A → MeansAll (declare x at U) (declare x at A)
  defined : {name : Option (List ℕ)} {b : Bool} {O : Outline} {M : Term} → Means O M → MeansAll (define name None O b) (define name None M b)
  defined_typed : {name : Option (List ℕ)} {b : Bool} {U O : Outline} {A M : Term} → Means U A → Means O M → MeansAll (define name (Some U) O b) (define name (Some A) M b)
  preferred : {a : ExtName} {x : List ℕ} {y : Option (List ℕ)} → MeansAll (prefer a x y) (prefer a x y)
  given : {fix : Fix} {names : List ExtName} → MeansAll (give fix names) (give fix names)

-- the tokens are the declaration, and each sequence in it has no other reading
abbrev pub Declares : Table → List Lexeme → Declaration → Type 0
Declares table tokens d = (D : DeclarationOf Outline) × Shapes table tokens D × MeansAll D d

-- the signs of a sequence, and none for each atom
abbrev pub sign_in : Item → Option Sign
sign_in (atom M) = None
sign_in (sign s) = Some s

abbrev pub mark_in : Node → Option Sign
mark_in (mark s) = Some s
mark_in _ = None

abbrev pub marks : Nodes → List (Option Sign)
marks none = []
marks (more row n) = marks row ++ mark_in n ∷ []

-- whatever its atoms are, the sequence has one reading, or has no reading or more than one
abbrev pub HasOne : Nodes → Type 0
HasOne row = (items : List Item) → map sign_in items ≡ marks row → (M : Term) × ReadsOnce items M

abbrev pub IsAtFault : Nodes → Type 0
IsAtFault row = (items : List Item) → map sign_in items ≡ marks row → (M : Term) → ReadsOnce items M → ⊥

-- each sequence of the outline has one reading
abbrev pub IsClear : Outline → Type 0
IsClear O = (M : Term) × Means O M

abbrev pub AreClear : Nodes → Type 0
AreClear row = (items : List Item) × Lists row items

mutual
  -- the first sequence at fault in the outline begins here; an outer sequence comes before those that stand in it
  pub data FirstFault : Outline → Place → Type 0 where
    here : {at : Place} {row : Nodes} → IsAtFault row → FirstFault (outline at row) at
    inside : {at place : Place} {row : Nodes} → HasOne row → FaultAmong row place → FirstFault (outline at row) place

  pub data FaultAmong : Nodes → Place → Type 0 where
    earlier : {row : Nodes} {n : Node} {place : Place} → FaultAmong row place → FaultAmong (more row n) place
    last : {row : Nodes} {n : Node} {place : Place} → AreClear row → FaultWithin n place → FaultAmong (more row n) place

  pub data FaultWithin : Node → Place → Type 0 where
    in_group : {O : Outline} {place : Place} → FirstFault O place → FaultWithin (group O) place
    in_body : {binder : Binder} {x : List ℕ} {at place : Place} {O : Outline} → FirstFault O place → FaultWithin (binding binder x at O) place
    in_domain : {binder : Binder} {x : List ℕ} {at place : Place} {D O : Outline} → FirstFault D place → FaultWithin (typed_binding binder x at D O) place
    in_typed_body : {binder : Binder} {x : List ℕ} {at place : Place} {D O : Outline} → IsClear D → FirstFault O place → FaultWithin (typed_binding binder x at D O) place

-- the sequences of a declaration, in the order in which they are told of: the type before the term
abbrev pub sequences_of : DeclarationOf Outline → List Outline
sequences_of (declare x at U) = U ∷ []
sequences_of (define name None O b) = O ∷ []
sequences_of (define name (Some U) O b) = U ∷ O ∷ []
sequences_of (prefer a x y) = []
sequences_of (give fix names) = []

-- the first fault of these sequences begins here: of `d : (a ->) = b ->.` at the `a`, of `d : a = b ->.` at the `b`
pub data FirstFaultIn : List Outline → Place → Type 0 where
  of_first : {O : Outline} {Os : List Outline} {place : Place} → FirstFault O place → FirstFaultIn (O ∷ Os) place
  of_later : {O : Outline} {Os : List Outline} {place : Place} → IsClear O → FirstFaultIn Os place → FirstFaultIn (O ∷ Os) place

-- the same of a declaration
abbrev pub FirstFaultOf : DeclarationOf Outline → Place → Type 0
FirstFaultOf D place = FirstFaultIn (sequences_of D) place
