-- Windows on the rows above a pixel, and the pixels left of it (our own rule): words whose bits are pixels of a grid.
use Rattle.std.specs.Prelude.{min, pos, ℕ, ℤ, ◌%◌, ◌*◌, ◌+◌, ◌-ℤ◌, ◌-◌, ◌<◌, ◌≡◌, ◌≤◌}
use Rattle.jbig2_base.specs.Grid.{Grid, pixel}
use Rattle.jbig2_base.specs.Bits.{bit}
use Rattle.jbig2_region.specs.declared.generic_kernel.windows.WideWindows.{WideWindows}
use Rattle.jbig2_region.specs.declared.generic_kernel.windows.Windows.{Windows}

module _ (g : Grid) (x : ℕ) where
  -- A window on a row around column x: bit 55 is the pixel at x, and pixels to the right of it are in lower bits. It
  -- shows this many columns, the first of them eight left of x.
  abbrev pub IsWindow : ℤ → ℕ → ℕ → Type 0
  IsWindow row seen word = (k : ℕ) → k < seen → bit word (63 - k) ≡ pixel g (pos (x + k) -ℤ pos 8) row

  -- a word whose lowest eight bits are the pixels of a row left of column x
  abbrev pub IsBefore : ℤ → ℕ → Type 0
  IsBefore row word = (k : ℕ) → k < 8 → bit word (7 - k) ≡ pixel g (pos (x + k) -ℤ pos 8) row

  -- windows, and such words, on the two rows above row y
  module _ (y : ℕ) where
    pub record Shows (seen : ℕ) (w : Windows) : Type 0 where
      pub above : IsWindow (pos y -ℤ pos 1) seen w.above
      pub top : IsWindow (pos y -ℤ pos 2) seen w.top

    pub record ShowsBefore (w : Windows) : Type 0 where
      pub above : IsBefore (pos y -ℤ pos 1) w.above
      pub top : IsBefore (pos y -ℤ pos 2) w.top

module _ (g : Grid) (x y : ℕ) where
  -- Windows around column x that serve this many bytes, at most eight. The second is needed only for more than four.
  pub record ShowsGroup (bytes : ℕ) (w : WideWindows) : Type 0 where
    pub first : Shows g x y 64 w.first
    pub second : 5 ≤ bytes → Shows g (x + 32) y 64 w.second

  -- the windows at byte `done` of a group; the second ones stay the same
  pub record ShowsByte (done : ℕ) (group w : WideWindows) : Type 0 where
    pub first : Shows g (x + 8 * done) y (64 - 8 * (done % 4)) w.first
    pub second : w.second ≡ group.second

  -- windows around column x, with the pixels by which a run of `most` bytes is tested
  pub record ShowsRun (most : ℕ) (w : WideWindows) : Type 0 where
    pub first : Shows g x y (8 * min most 4 + 12) w.first
    pub second : 5 ≤ most → Shows g (x + 32) y 44 w.second

-- a byte's windows, whenever the group's windows serve this many bytes
abbrev pub AreAtByte : ℕ → ℕ → WideWindows → WideWindows → Type 0
AreAtByte bytes done group w = (g : Grid) (x y : ℕ) → ShowsGroup g x y bytes group → ShowsByte g x y done group w

-- the four pixels left of column x, the nearest in bit 0
abbrev pub IsLeft : Grid → ℕ → ℕ → ℕ → Type 0
IsLeft g x y left = (k : ℕ) → k < 4 → bit left k ≡ pixel g (pos x -ℤ pos (k + 1)) (pos y)
