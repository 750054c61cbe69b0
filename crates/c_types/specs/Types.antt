-- Types and layouts as plain data.
use Rattle.std.specs.Prelude.{ℕ, Bool, List}

pub data Ty : Type 0 where
  VoidY : Ty
  IntY : Ty
  BoolY : Ty
  EnumY : (number : ℕ) → Ty
  StructY : (number : ℕ) → Ty
  UnionY : (number : ℕ) → Ty
  PointerY : (to : Ty) → Ty
  ArrayY : (of : Ty) (len : ℕ) → Ty

-- a member: its name, its first word counted from the structure's, its type
pub record MemberT : Type 0 where
  pub name : List ℕ
  pub offset : ℕ
  pub ty : Ty

-- A structure or union: its members in their order, and its number of words. One that is declared whole has a member; one that is
-- declared by its name alone has none.
pub record LayoutT : Type 0 where
  pub is_union : Bool
  pub members : List MemberT
  pub size : ℕ
