-- Subordination: the least relation, over a signature and a list of blocks; self-contained sets of families.
use Rattle.std.specs.Prelude.{◌≡◌, ℕ, List, [], ◌∷◌, Some, Bool, true, ◌⊎◌, ◌↔◌}
use Rattle.lf.specs.Syntax.{LfType, Kind, pi, atom, kind_pi, star}
use Rattle.lf.specs.Typing.{Signature, IsContext}
use Rattle.lf.specs.Variables.{target, onto, FamiliesIn, KindFamiliesIn}

-- A block: the bytes of its label, the `some` variables, and the entries over them; these two lists have the newest in front.
pub record Block : Type 0 where
  pub label : List ℕ
  pub some : List LfType
  pub entries : List LfType

-- one of the list
abbrev pub Member : {A : Type 0} → A → List A → Type 0
Member x [] = ⊥
Member x (y ∷ ys) = (x ≡ y) ⊎ Member x ys

-- somewhere in the type stands {x:A} B, where a is the target of A and b that of B
abbrev pub Quantifies : ℕ → ℕ → LfType → Type 0
Quantifies a b (pi A B) = ((target A ≡ a) × (target B ≡ b)) ⊎ Quantifies a b A ⊎ Quantifies a b B
Quantifies a b (atom c S) = ⊥

-- the same in the kind of f, where b is f for a quantifier of the kind itself
abbrev pub KindQuantifies : ℕ → ℕ → ℕ → Kind → Type 0
KindQuantifies f a b (kind_pi A K) = ((target A ≡ a) × (f ≡ b)) ⊎ Quantifies a b A ⊎ KindQuantifies f a b K
KindQuantifies f a b star = ⊥

-- family a is below family b: the least reflexive and transitive relation that holds where a type or kind of the signature,
-- or of an entry of a block, quantifies a over b
pub data Below (Σ : Signature) (W : List Block) : ℕ → ℕ → Type 0 where
  below_itself : {a : ℕ} → Below Σ W a a
  below_through : {a b c : ℕ} → Below Σ W a b → Below Σ W b c → Below Σ W a c
  below_in_constant : {a b : ℕ} (c : ℕ) (U : LfType) → Σ.types c ≡ Some U → Quantifies a b U → Below Σ W a b
  below_in_kind : {a b : ℕ} (f : ℕ) (K : Kind) → Σ.kinds f ≡ Some K → KindQuantifies f a b K → Below Σ W a b
  below_in_entry : {a b : ℕ} (B : Block) (E : LfType) → Member B W → Member E B.entries → Quantifies a b E → Below Σ W a b

-- the family has a kind
abbrev pub IsDeclared : Signature → ℕ → Type 0
IsDeclared Σ a = (K : Kind) × (Σ.kinds a ≡ Some K)

-- The `some` variables of the block form a context, and each entry is a type over them and the entries before it.
abbrev pub IsTypedBlock : Signature → Block → Type 0
IsTypedBlock Σ B = IsContext Σ (onto B.entries B.some)

abbrev pub AreTypedBlocks : Signature → List Block → Type 0
AreTypedBlocks Σ W = (B : Block) → Member B W → IsTypedBlock Σ B

-- A set of declared families that holds every family in the kind of one of its families, in the type of a constant whose
-- target is one of them, and in the type of a block's entry whose target is one of them.
pub record SelfContained (Σ : Signature) (W : List Block) (S : ℕ → Bool) : Type 0 where
  pub declared : (a : ℕ) → S a ≡ true → IsDeclared Σ a
  pub kinds_in : (a : ℕ) (K : Kind) → Σ.kinds a ≡ Some K → S a ≡ true → KindFamiliesIn S K
  pub types_in : (c : ℕ) (A : LfType) → Σ.types c ≡ Some A → S (target A) ≡ true → FamiliesIn S A
  pub entries_in : (B : Block) (E : LfType) → Member B W → Member E B.entries → S (target E) ≡ true → FamiliesIn S E

-- S decides which families are below f
abbrev pub IsBelowTest : Signature → List Block → (ℕ → Bool) → ℕ → Type 0
IsBelowTest Σ W S f = (b : ℕ) → (S b ≡ true) ↔ Below Σ W b f
