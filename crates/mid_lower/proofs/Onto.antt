-- A list of nodes before further nodes: a piece read as a list stands for what it is read before other nodes.
use Rattle.std.proofs.Common.{◌≡◌, true, false, [], ◌∷◌, ◌++◌, refl, ap, ◌∙◌}
use Rattle.mid_code.specs.Code.{Stop, Choose, Block, Loop}
use Rattle.mid_code.specs.Functions.{listed, joined, before}
use Rattle.lower_trees.specs.Pieces.{Nodes, Listing, Piece, NothingP, ◌▸◌, EitherP, DoP, ChooseP, BlockP, LoopP, LeaveP, AgainP, ReturnP, coded, listing}

abbrev onto : Listing → Nodes → Nodes
onto [] c = c
onto (x ∷ xs) c = before x (onto xs c)

joined_listed : (xs : Listing) → joined (listed xs) ≡ onto xs Stop
joined_listed [] = refl
joined_listed (x ∷ xs) = ap (before x) (joined_listed xs)

onto_append : (xs ys : Listing) (c : Nodes) → onto (xs ++ ys) c ≡ onto xs (onto ys c)
onto_append [] ys c = refl
onto_append (x ∷ xs) ys c = ap (before x) (onto_append xs ys c)

same : (a : Piece) (c : Nodes) → onto (listing a) c ≡ coded a c
same NothingP c = refl
same (a ▸ b) c = onto_append (listing a) (listing b) c ∙ ap (onto (listing a)) (same b c) ∙ same a (coded b c)
same (EitherP true a b) c = same a c
same (EitherP false a b) c = same b c
same (DoP o) c = refl
same (ChooseP p a b) c = λ i. Choose p ((joined_listed (listing a) ∙ same a Stop) i) ((joined_listed (listing b) ∙ same b Stop) i) c
same (BlockP a) c = λ i. Block ((joined_listed (listing a) ∙ same a Stop) i) c
same (LoopP a) c = λ i. Loop ((joined_listed (listing a) ∙ same a Stop) i) c
same (LeaveP k) c = refl
same (AgainP k) c = refl
same (ReturnP p) c = refl

-- a piece by itself
pub whole : (a : Piece) → joined (listed (listing a)) ≡ coded a Stop
whole a = joined_listed (listing a) ∙ same a Stop
