-- Each contents has one spelling.
use mathlib.Core.Path.{refl}
use Prim.Native.Nat.{ℕ, ◌-◌}
use lib.Dec.{leb}
use Rattle.forms.specs.Form.{groups, bytes, many, such_that}
use Rattle.forms.proofs.Exact.{Exact, groups_exact, bytes_exact, then_exact, many_exact, such_that_exact, through_exact}
use Rattle.lane_file.specs.File.{Head, join_head, split_head, head_form, join_patterns, split_patterns, break_count, coefficient_count, patterns_form, contents, file_form}

pub head_exact : Exact head_form
head_exact =
    through_exact join_head split_head (λ h. refl) (λ p. refl) _
    (then_exact groups _ groups_exact (λ d.
    then_exact (such_that groups (λ k. leb k d)) _ (such_that_exact groups (λ k. leb k d) groups_exact) (λ k.
    then_exact (many groups k) _ (many_exact groups groups_exact k) (λ axes.
    then_exact (such_that groups (λ mode. leb mode 1)) _ (such_that_exact groups (λ mode. leb mode 1) groups_exact) (λ mode.
    then_exact groups _ groups_exact (λ segments. groups_exact))))))

words_exact : (n : ℕ) → Exact (many (bytes 8) n)
words_exact n = many_exact (bytes 8) (bytes_exact 8) n

pub patterns_exact : (h : Head) → Exact (patterns_form h)
patterns_exact h =
    through_exact join_patterns split_patterns (λ x. refl) (λ p. refl) _
    (then_exact (bytes 8) _ (bytes_exact 8) (λ start.
    then_exact (bytes 8) _ (bytes_exact 8) (λ end.
    then_exact (many (bytes 8) (break_count h.segments)) _ (words_exact (break_count h.segments)) (λ breaks.
    then_exact (many (bytes 8) (coefficient_count h.segments h.k)) _ (words_exact (coefficient_count h.segments h.k))
    (λ coefficients.
    then_exact (many (bytes 8) (break_count h.other_segments)) _ (words_exact (break_count h.other_segments)) (λ other_breaks.
    words_exact (coefficient_count h.other_segments (h.d - h.k))))))))

pub file_exact : Exact file_form
file_exact =
    through_exact (λ p. contents p.first p.second) (λ x. record { first = x.head; second = x.patterns }) (λ x. refl) (λ p. refl) _
    (then_exact head_form patterns_form head_exact patterns_exact)
