-- Pieces of lowered code, and the two ways to read them: before other nodes, and as lists of nodes as they stand in memory.
use Rattle.std.specs.Prelude.{ℕ, Bool, List, [], ◌∷◌, ◌++◌, Option, if◌then◌else◌}
use Rattle.mid_code.specs.declared.node.Op.{Op}
use Rattle.mid_code.specs.Code.{NodesT, Stop, Choose, Block, Loop, Leave, Again, Return}
use Rattle.mid_code.specs.Functions.{NodeT, DoN, ChooseN, BlockN, LoopN, LeaveN, AgainN, ReturnN, op_before, listed}

infixl 10 ◌▸◌
-- `a ▸ b` is a and then b; `EitherP test a b` is a where the test holds, else b.
pub data Piece : Type 0 where
  NothingP : Piece
  ◌▸◌ : (a b : Piece) → Piece
  EitherP : (test : Bool) (a b : Piece) → Piece
  DoP : (o : Op ℕ) → Piece
  ChooseP : (p : ℕ) (a b : Piece) → Piece
  BlockP : (a : Piece) → Piece
  LoopP : (a : Piece) → Piece
  LeaveP : (k : ℕ) → Piece
  AgainP : (k : ℕ) → Piece
  ReturnP : (p : Option ℕ) → Piece

abbrev pub Nodes : Type 0
Nodes = NodesT ℕ

abbrev pub Listing : Type 0
Listing = List (NodeT ℕ)

-- a piece, and the nodes behind it
abbrev pub coded : Piece → Nodes → Nodes
coded NothingP c = c
coded (a ▸ b) c = coded a (coded b c)
coded (EitherP test a b) c = if test then coded a c else coded b c
coded (DoP o) c = op_before o c
coded (ChooseP p a b) c = Choose p (coded a Stop) (coded b Stop) c
coded (BlockP a) c = Block (coded a Stop) c
coded (LoopP a) c = Loop (coded a Stop) c
coded (LeaveP k) c = Leave k c
coded (AgainP k) c = Again k c
coded (ReturnP p) c = Return p c

abbrev pub listing : Piece → Listing
listing NothingP = []
listing (a ▸ b) = listing a ++ listing b
listing (EitherP test a b) = if test then listing a else listing b
listing (DoP o) = DoN o ∷ []
listing (ChooseP p a b) = ChooseN p (listed (listing a)) (listed (listing b)) ∷ []
listing (BlockP a) = BlockN (listed (listing a)) ∷ []
listing (LoopP a) = LoopN (listed (listing a)) ∷ []
listing (LeaveP k) = LeaveN k ∷ []
listing (AgainP k) = AgainN k ∷ []
listing (ReturnP p) = ReturnN p ∷ []
