-- What `%block` asks of what is written, the block that it gives, and its line.
use Rattle.std.specs.Prelude.{◌≡◌, ℕ, zero, suc, List, [], ◌∷◌, ◌++◌, codes}
use Rattle.lf.specs.Entries.{Entry, IsCanonicalEntry, declare_family, signature_of}
use Rattle.lf.specs.Subordination.{Block}
use Rattle.lf.specs.Syntax.{Kind, LfType, kind_pi, star}
use Rattle.tw_approx.specs.Names.{IsFreeVariable}
use Rattle.tw_parse.specs.Syntax.{Declaration}
use Rattle.tw_parse.specs.declared.decl.ExtName.{ExtName}
use Rattle.tw_recon.specs.Reconstruction.{IsReconstructed}
use Rattle.tw_decl.specs.View.{View}

-- no free variable stands in the block
abbrev pub HasNoFree : View → Declaration → Type 0
HasNoFree v d = (x : List ℕ) → IsFreeVariable v.signature x d → ⊥

-- the first n quantifiers of a kind, the newest in front, over those before it
abbrev pub first_binders : ℕ → List LfType → Kind → List LfType
first_binders zero G K = G
first_binders (suc n) G (kind_pi A K) = first_binders n (A ∷ G) K
first_binders (suc n) G star = G

-- what stands behind them
abbrev pub behind : ℕ → Kind → Kind
behind zero K = K
behind (suc n) (kind_pi A K) = behind n K
behind (suc n) star = star

-- all quantifiers of a kind
abbrev pub all_binders : List LfType → Kind → List LfType
all_binders G (kind_pi A K) = all_binders (A ∷ G) K
all_binders G star = G

-- The block of this label whose `some` variables are the first n quantifiers of a kind, and whose entries are the others: with n = 1 `{n:nat} {u:f n} type` gives `some {n:nat} block {u:f n}`.
abbrev pub block_by : List ℕ → ℕ → Kind → Block
block_by label n K = record { label = label; some = first_binders n [] K; entries = all_binders [] (behind n K) }

-- the entry of a block: a family of this kind, of which nothing is implicit
pub record HasBlockForm (e : Entry) (K : Kind) : Type 0 where
  pub declares : e.body ≡ declare_family K
  pub closed : e.implicit ≡ zero

-- No free variable stands in what is written, it is reconstructed as the kind of a family, nothing of it is left open, and this is its block.
pub record GivesBlock (v : View) (l : ExtName) (n : ℕ) (d : Declaration) (B : Block) : Type 0 where
  pub nothing_free : HasNoFree v d
  pub entry : Entry
  pub reconstructs : IsReconstructed v.signature d entry
  pub stands : IsCanonicalEntry (signature_of v.signature) entry
  pub kind : Kind
  pub form : HasBlockForm entry kind
  pub gives : B ≡ block_by l.name n kind

-- It is reconstructed, and some term in it stays open, so that a quantifier is implicit.
pub record LeavesOpen (v : View) (d : Declaration) : Type 0 where
  pub nothing_free : HasNoFree v d
  pub entry : Entry
  pub reconstructs : IsReconstructed v.signature d entry
  pub none : (K : Kind) → HasBlockForm entry K → ⊥

-- the keyword and the label
abbrev pub block_line : ExtName → List ℕ
block_line l = codes "%block " ++ l.name ++ codes ".\n"
