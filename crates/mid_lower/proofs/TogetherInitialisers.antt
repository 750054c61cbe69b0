-- The code of initialisers, conditions and drops leads to what follows it, and ends no local.
use Rattle.std.proofs.Common.{ℕ, zero, suc, ◌+◌, ◌-◌, ◌*◌, ◌%◌, ◌^◌, Bool, true, false, List, [], ◌∷◌, length}
use Rattle.c_types.specs.Types.{Ty, ArrayY}
use Rattle.c_types.specs.Typed.{TInitT, OneI, TextI, ListI, TInitTs, NoI, MoreI, TVarT}
use Rattle.c_types.specs.Kinds.{is_structure}
use Rattle.c_types.specs.Parts.{part_type}
use Rattle.mid_code.specs.Paths.{Point, at}
use Rattle.lower_trees.specs.Shape.{Shape, words, literal_words}
use Rattle.lower_trees.specs.Flags.{is_flag}
use Rattle.lower_trees.specs.Pieces.{Nodes, coded}
use Rattle.lower_trees.specs.Parts.{item}
use Rattle.lower_trees.specs.Initialisers.{part_at, cell_filled, part_filled, part_zeroed, low_text, low_rest, low_init, low_inits, address_of, object_to, low_vars}
use Rattle.lower_trees.specs.Counts.{init_temps, init_sizes, behind_address}
use Rattle.mid_lower.proofs.TogetherPaths.{Frames, Leads, doing}
use Rattle.mid_lower.proofs.TogetherExpressions.{copied_leads, copied_on_leads, zeroed_leads, either_leads, converted_leads, low_value_passes}

part_at_leads : (p offset : ℕ) (c : Nodes) (fs : Frames) (q : Point ℕ) → Leads (at fs c) q → Leads (at fs (coded (part_at p offset) c)) q
part_at_leads p zero c fs q l = doing tt l
part_at_leads p (suc offset) c fs q l = doing tt (doing tt l)

cell_leads : (p offset : ℕ) (c : Nodes) (fs : Frames) (q : Point ℕ) → Leads (at fs c) q → Leads (at fs (coded (cell_filled p offset) c)) q
cell_leads p zero c fs q l = doing tt l
cell_leads p (suc offset) c fs q l = doing tt (doing tt (doing tt l))

part_leads : (h : Shape) (ty : Ty) (p offset : ℕ) (c : Nodes) (fs : Frames) (q : Point ℕ) → Leads (at fs c) q → Leads (at fs (coded (part_filled h ty p offset) c)) q
part_leads h ty p offset c fs q l =
    either_leads (is_structure ty) _ _ fs q (part_at_leads p offset _ fs q (copied_on_leads (words h ty) item c fs q l)) (cell_leads p offset c fs q l)

zero_part_leads : (p offset size : ℕ) (c : Nodes) (fs : Frames) (q : Point ℕ) → Leads (at fs c) q → Leads (at fs (coded (part_zeroed p offset size) c)) q
zero_part_leads p offset zero c fs q l = l
zero_part_leads p offset (suc left) c fs q l = part_at_leads p offset _ fs q (zeroed_leads (suc left) c fs q l)

text_leads : (h : Shape) (number size p offset : ℕ) (c : Nodes) (fs : Frames) (q : Point ℕ) → Leads (at fs c) q → Leads (at fs (coded (low_text h number size p offset) c)) q
text_leads h number size p offset c fs q l =
    doing tt (part_at_leads p offset _ fs q (copied_leads (literal_words h number) _ fs q
    (zero_part_leads p ((offset + literal_words h number) % 2 ^ 32) (size - literal_words h number) c fs q l)))

rest_leads : (h : Shape) (ty : Ty) (k p offset : ℕ) (c : Nodes) (fs : Frames) (q : Point ℕ) → Leads (at fs c) q → Leads (at fs (coded (low_rest h ty k p offset) c)) q
rest_leads h (ArrayY of len) k p offset c fs q l = zero_part_leads p offset (words h of * (len - k) % 2 ^ 32) c fs q l
rest_leads h ty k p offset c fs q l = l

mutual
  init_leads : (h : Shape) (i : TInitT) (ty : Ty) (p offset n m : ℕ) (c : Nodes) (fs : Frames) (q : Point ℕ) → Leads (at fs c) q → Leads (at fs (coded (low_init h i ty p offset n m) c)) q
  init_leads h (OneI x) ty p offset n m c fs q l = low_value_passes h x item n m _ fs q (converted_leads ty (is_flag x) item _ fs q (part_leads h ty p offset c fs q l))
  init_leads h (TextI number) ty p offset n m c fs q l = text_leads h number (words h ty) p offset c fs q l
  init_leads h (ListI items) ty p offset n m c fs q l = inits_leads h items ty 0 p offset n m c fs q l

  inits_leads : (h : Shape) (is : TInitTs) (ty : Ty) (k p offset n m : ℕ) (c : Nodes) (fs : Frames) (q : Point ℕ) → Leads (at fs c) q → Leads (at fs (coded (low_inits h is ty k p offset n m) c)) q
  inits_leads h NoI ty k p offset n m c fs q l = rest_leads h ty k p offset c fs q l
  inits_leads h (MoreI i rest) ty k p offset n m c fs q l =
      init_leads h i (part_type h.layouts ty k) p offset n m _ fs q
      (inits_leads h rest ty (k + 1) p ((offset + words h (part_type h.layouts ty k)) % 2 ^ 32) (n + init_temps i) (m + length (init_sizes h i)) c fs q l)

object_leads : (global : Bool) (number t : ℕ) (c : Nodes) (fs : Frames) (q : Point ℕ) → Leads (at fs c) q → Leads (at fs (coded (object_to global number t) c)) q
object_leads true number t c fs q l = doing tt l
object_leads false number t c fs q l = doing tt l

pub vars_leads : (h : Shape) (vs : List TVarT) (n m : ℕ) (c : Nodes) (fs : Frames) (q : Point ℕ) → Leads (at fs c) q → Leads (at fs (coded (low_vars h vs n m) c)) q
vars_leads h [] n m c fs q l = l
vars_leads h (v ∷ vs) n m c fs q l =
    object_leads v.global v.object (address_of v.init n) _ fs q (init_leads h v.init v.ty (address_of v.init n) 0 (behind_address v.init n) m _ fs q
    (vars_leads h vs (behind_address v.init n + init_temps v.init) (m + length (init_sizes h v.init)) c fs q l))
