-- Laws of closing. Closing a bus at one tick and then at a later one is closing it at the later
-- one. Closing it no further than it is closed changes nothing.
use Rattle.std.specs.Prelude.{ℕ, zero, suc, ◌≡◌, ◌≤◌, ◌+◌, ◌-◌, max, refl}
use Rattle.std.proofs.Common.{arith}
use Rattle.host_bus.specs.Board.{BoardState, Around, Moving, around, moving_part, tick, ticks, board_closed}
use Rattle.host_bus.specs.Bus.{BusState, bus_closed, closed_at}

pub ticks-add : (a : Around) (n m k : ℕ) (s : Moving) → ticks a m (k + n) (ticks a n k s) ≡ ticks a (n + m) k s
ticks-add a zero m k s =
    let same : k + 0 ≡ k = omega arith in
    let sum : 0 + m ≡ m = omega arith in
    rw (same, sum) refl
ticks-add a (suc n) m k s =
    let same : k + suc n ≡ (k + 1) + n = omega arith in
    let sum : suc n + m ≡ suc (n + m) = omega arith in
    rw (same, sum) (ticks-add a n m (k + 1) (tick a k s))

-- from c to t, and then to u
pub ticks-on : (a : Around) (s : Moving) (c t u : ℕ) → t ≤ u → ticks a (u - max t c) (max t c) (ticks a (t - c) c s) ≡ ticks a (u - c) c s
ticks-on a s c t u high =
    let there : max t c ≡ c + (t - c) = omega arith in
    let sum : u - c ≡ (t - c) + (u - (c + (t - c))) = omega (arith, high) in
    rw (there, sum) (ticks-add a (t - c) (u - (c + (t - c))) c s)

pub board-again : (b : BoardState) (t u : ℕ) → t ≤ u → board_closed (board_closed b t) u ≡ board_closed b u
board-again b t u high =
    let most : max u (max t b.closed) ≡ max u b.closed = omega (arith, high) in
    rw (ticks-on (around b) (moving_part b) b.closed t u high, most) refl

pub closed-again : (b : BusState) (t u : ℕ) → t ≤ u → bus_closed (bus_closed b t) u ≡ bus_closed b u
closed-again b t u high = rw (board-again b.board t u high) refl

-- closing a bus no further than it is closed
pub board-still : (b : BoardState) (t : ℕ) → t ≤ b.closed → board_closed b t ≡ b
board-still b t low =
    let none : t - b.closed ≡ 0 = omega (arith, low) in
    let same : max t b.closed ≡ b.closed = omega (arith, low) in
    rw (none, same) refl

pub closed-still : (b : BusState) (t : ℕ) → t ≤ closed_at b → bus_closed b t ≡ b
closed-still b t low = rw (board-still b.board t low) refl
