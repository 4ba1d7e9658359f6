-- No second answer, and no second buffer, meets the contracts of `cell`.
use mathlib.Core.Path.{refl}
use Rattle.number.specs.Whole.{val}
use Rattle.promises.proofs.NoSecond.{NoSecond, equation, given, ref, shared, answer, by, first}
use Rattle.cell.proofs.read.low64_at.Reads as low64-at
use Rattle.cell.proofs.read.u8_at.Reads as u8-at
use Rattle.cell.proofs.read.u16_at.Reads as u16-at
use Rattle.cell.proofs.read.u24_at.Reads as u24-at
use Rattle.cell.proofs.read.u32_at.Reads as u32-at
use Rattle.cell.proofs.read.u48_at.Reads as u48-at
use Rattle.cell.proofs.read.u64_at.Reads as u64-at
use Rattle.cell.proofs.read.wide_at.Reads as wide_at
use Rattle.cell.proofs.write.put_u8.Reads as put-u8
use Rattle.cell.proofs.write.put_u16.Reads as put-u16
use Rattle.cell.proofs.write.put_u24.Reads as put-u24
use Rattle.cell.proofs.write.put_u32.Reads as put-u32
use Rattle.cell.proofs.write.put_u64.Reads as put-u64
use Rattle.cell.proofs.write.put_wide.Reads as put-wide

-- what is read
pub one_low64_at : NoSecond low64-at.Post (shared given) answer
one_low64_at = equation (λ a b. refl)

pub one_u8_at : NoSecond u8-at.Post (shared given) answer
one_u8_at = equation (λ a b. refl)

pub one_u16_at : NoSecond u16-at.Post (shared given) answer
one_u16_at = equation (λ a b. refl)

pub one_u24_at : NoSecond u24-at.Post (shared given) answer
one_u24_at = equation (λ a b. refl)

pub one_u32_at : NoSecond u32-at.Post (shared given) answer
one_u32_at = equation (λ a b. refl)

pub one_u48_at : NoSecond u48-at.Post (shared given) answer
one_u48_at = equation (λ a b. refl)

pub one_u64_at : NoSecond u64-at.Post (shared given) answer
one_u64_at = equation (λ a b. refl)

pub one_wide_at : NoSecond wide_at.Post (shared given) (by val)
one_wide_at = equation (λ a b. refl)

-- what is left in the lent buffer
pub one_put_u8 : NoSecond put-u8.Post (ref given) first
one_put_u8 = equation (λ a b. refl)

pub one_put_u16 : NoSecond put-u16.Post (ref given) first
one_put_u16 = equation (λ a b. refl)

pub one_put_u24 : NoSecond put-u24.Post (ref given) first
one_put_u24 = equation (λ a b. refl)

pub one_put_u32 : NoSecond put-u32.Post (ref given) first
one_put_u32 = equation (λ a b. refl)

pub one_put_u64 : NoSecond put-u64.Post (ref given) first
one_put_u64 = equation (λ a b. refl)

pub one_put_wide : NoSecond put-wide.Post (ref given) first
one_put_wide = equation (λ a b. refl)
