-- Memory words and gas as the Ethereum Yellow Paper writes them, apart from ours.
use Rattle.std.specs.Prelude.{ℕ, zero, suc, ◌+◌, ◌*◌, ◌/◌, ◌%◌, ◌^◌, min, max}

-- ⌈n ÷ 32⌉: a whole word for what is left over
unfoldable pub ceiling : ℕ → ℕ
ceiling n = n / 32 + min 1 (n % 32)

-- M(s, f, l) = s if l = 0, else max(s, ⌈(f + l) ÷ 32⌉)
unfoldable pub M : ℕ → ℕ → ℕ → ℕ
M s f zero = s
M s f (suc l) = max s (ceiling (f + suc l))

-- C_mem(a) = 3·a + ⌊a² ÷ 512⌋
unfoldable pub C_mem : ℕ → ℕ
C_mem a = 3 * a + a ^ 2 / 512
