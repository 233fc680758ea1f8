-- What a call of `pamitoye_certify` writes.
use Rattle.std.specs.Prelude.{Bool, true, false, cond, ℕ, eqb, Float}
use Rattle.figure.specs.Figure.{Figure, figure, no_figure}

abbrev pub is_figure : Figure → Bool
is_figure (figure x) = true
is_figure no_figure = false

-- whether there is a figure is written where the number is 0
abbrev pub given_after : ℕ → Figure → Bool → Bool
given_after number f old = cond (eqb number 0) (is_figure f) old

-- the figure is written where there is one
abbrev pub figure_after : Figure → Float → Float
figure_after (figure x) old = x
figure_after no_figure old = old
