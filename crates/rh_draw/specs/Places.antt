-- Where lanes and moments stand, in pixels from the upper left corner.
use Rattle.std.specs.Prelude.{ℕ, ◌+◌, ◌-◌, ◌*◌, ◌/◌, min}
use Rattle.rh_draw.specs.declared.limits.TheConstants.{BAND, HEAD_STEPS, LANE, LEFT, MAX_LANES, LAST_MOMENT, ROW, TOP}
use Rattle.rh_draw.specs.declared.records.Window.{Window}

-- the middle of a worker's lane; of the worker after the last, where the columns begin
abbrev pub lane_x : (worker : ℕ) → ℕ
lane_x worker = LEFT + LANE * min worker MAX_LANES

-- how high so many steps are, with the heads that stand again after each HEAD_STEPS of them
abbrev pub height_of : (steps : ℕ) → ℕ
height_of steps = ROW * steps + BAND * ((steps - 1) / HEAD_STEPS)

-- the height of a moment, which is as many steps of the window later as its number says
abbrev pub moment_y : (moment : ℕ) → ℕ
moment_y moment = TOP + height_of (min moment LAST_MOMENT)

-- the moment after a step
abbrev pub moment_of : Window → (number : ℕ) → ℕ
moment_of window number = number - window.from + 1
