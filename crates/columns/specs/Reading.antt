-- What a column says, formed or not: where it is not formed, the other fields are what its bytes happen to give. And what of it is told: what a column
-- says where it is formed, and else nothing. (Lines and columns)
use Rattle.std.specs.Prelude.{ℕ, Bool, Option, Some, None}
use Rattle.rules.specs.Tests.{pick}
use Rattle.columns.specs.declared.reading.Signed as read

pub record Plain : Type 0 where
  pub formed : Bool
  pub number : ℕ

pub record Optional : Type 0 where
  pub formed : Bool
  pub present : Bool
  pub number : ℕ

pub record Signed : Type 0 where
  pub formed : Bool
  pub below : Bool
  pub size : ℕ

abbrev pub formed_plain : Plain → Option ℕ
formed_plain c = pick c.formed (Some c.number) None

abbrev pub formed_optional : Optional → Option (Option ℕ)
formed_optional c = pick c.formed (Some (pick c.present (Some c.number) None)) None

abbrev pub formed_signed : Signed → Option read.Signed
formed_signed c = pick c.formed (Some (record { below = c.below; size = c.size })) None
