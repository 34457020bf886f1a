-- A board that is closed while its lines do not change keeps them.
use Rattle.std.proofs.Common.{◌≡◌, ◌≤◌, ◌<◌, ◌^◌, ◌∙◌, ap, sym, ℕ, inl, inr, slice_set, arith}
use Rattle.std.proofs.lemmas.Bool.{cases_lt}
use Rattle.host_bus.specs.Board.{BoardState, board_closed, board_irq, board_nmis}
use Rattle.host_bus.specs.Closing.{board-again, board-still}
use Rattle.host_bus.specs.Lag.{IsCalm, IsBehind}
use Rattle.host_bus.specs.StoredLines.{irq-stored, nmis-stored}

stays : {A : Type 0} (f : BoardState → A) (b : BoardState) (closed t u : ℕ) → closed ≤ t → u ≤ t → ((v : ℕ) → v ≤ t → f (board_closed b v) ≡ f b) →
    f (board_closed (board_closed b closed) u) ≡ f (board_closed b closed)
stays f b closed t u near far calm = elim (cases_lt u closed) [
  | inl low ↦ ap f (board-still (board_closed b closed) u (omega (arith, low)))
  | inr high ↦ ap f (board-again b closed u high) ∙ calm u far ∙ sym (calm closed near)
]

pub calm_there : {b : BoardState} {closed calm : ℕ} → IsBehind b closed calm → IsCalm calm (board_closed b closed)
calm_there {b} {closed} {calm} h = record {
  irq = λ u far. stays board_irq b closed calm u h.near far h.lines.irq;
  nmis = λ u far. stays board_nmis b closed calm u h.near far h.lines.nmis;
}

pub behind_there : {b new : BoardState} {closed calm : ℕ} → IsBehind b closed calm → new ≡ board_closed b closed → IsBehind new closed calm
behind_there h is = rw is (record { reached = omega (arith, h.reached); near = h.near; room = h.room; lines = calm_there h })

-- a board with one byte of its RAM changed keeps them too
pub behind-written : {b new : BoardState} {closed calm : ℕ} (t at v : ℕ) → IsBehind b closed calm → new ≡ record b { ram = slice_set b.ram at v } → closed ≤ t →
    t ≤ calm → t < 2 ^ 48 → IsBehind new t calm
behind-written {b} t at v h is low near room = rw is (record {
  reached = omega (arith, h.reached, low);
  near = near;
  room = room;
  lines = record { irq = λ u few. irq-stored b at v u ∙ h.lines.irq u few; nmis = λ u few. nmis-stored b at v u ∙ h.lines.nmis u few };
})
