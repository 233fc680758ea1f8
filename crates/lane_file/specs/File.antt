-- A lane file: document 02, request 1, "Lane files for the second harvester".
use Rattle.std.specs.Prelude.{cond, List, ℕ, ◌+◌, ◌-◌, ◌*◌, leb, eqb}
use Rattle.forms.specs.Form.{Form, Both, groups, bytes, then, many, such_that, through}

-- what stands in groups of seven bits
pub record Head : Type 0 where
  pub d : ℕ
  pub k : ℕ
  pub axes : List ℕ
  pub mode : ℕ
  pub segments : ℕ
  pub other_segments : ℕ

abbrev pub Tail : Type 0
Tail = Both ℕ (λ mode. Both ℕ (λ segments. ℕ))

-- one after the other
abbrev pub HeadParts : Type 0
HeadParts = Both ℕ (λ d. Both ℕ (λ k. Both (List ℕ) (λ axes. Tail)))

abbrev pub join_head : HeadParts → Head
join_head p =
    record {
      d = p.first;
      k = p.second.first;
      axes = p.second.second.first;
      mode = p.second.second.second.first;
      segments = p.second.second.second.second.first;
      other_segments = p.second.second.second.second.second;
    }

abbrev pub split_head : Head → HeadParts
split_head h = record {
  first = h.d;
  second = record {
    first = h.k;
    second = record {
      first = h.axes;
      second = record { first = h.mode; second = record { first = h.segments; second = h.other_segments } };
    };
  };
}

-- the mode and both segment counts
abbrev pub tail_form : Form Tail
tail_form = then (such_that groups (λ mode. leb mode 1)) (λ mode. then groups (λ segments. groups))

-- "d, k, axes, mode (0 Error, 1 Clamp), both segment counts in groups of seven bits as in the job"; "a mode above 1, a k above d .. do not
-- read"
abbrev pub head_form : Form Head
head_form =
    through join_head split_head
    (then groups (λ d. then (such_that groups (λ k. leb k d)) (λ k. then (many groups k) (λ axes. tail_form))))

-- what stands in eight bytes each: bit patterns
pub record Patterns : Type 0 where
  pub start : ℕ
  pub end : ℕ
  pub breaks : List ℕ
  pub coefficients : List ℕ
  pub other_breaks : List ℕ
  pub other_coefficients : List ℕ

abbrev pub PatternParts : Type 0
PatternParts =
    Both ℕ (λ start. Both ℕ (λ end. Both (List ℕ) (λ breaks. Both (List ℕ) (λ coefficients. Both (List ℕ) (λ other_breaks. List ℕ)))))

abbrev pub join_patterns : PatternParts → Patterns
join_patterns p =
    record {
      start = p.first;
      end = p.second.first;
      breaks = p.second.second.first;
      coefficients = p.second.second.second.first;
      other_breaks = p.second.second.second.second.first;
      other_coefficients = p.second.second.second.second.second;
    }

abbrev pub split_patterns : Patterns → PatternParts
split_patterns x = record {
  first = x.start;
  second = record {
    first = x.end;
    second = record {
      first = x.breaks;
      second = record {
        first = x.coefficients;
        second = record { first = x.other_breaks; second = x.other_coefficients };
      };
    };
  };
}

-- the breaks of n segments: "a count of 0 without breaks"
abbrev pub break_count : ℕ → ℕ
break_count n = cond (eqb n 0) 0 (n + 1)

-- the coefficients of n segments with m axes
abbrev pub coefficient_count : ℕ → ℕ → ℕ
coefficient_count n m = 6 * (n * m)

-- "then start, end, selected breaks, selected coefficients and the same of the other set as eight-byte numbers, low byte first"
abbrev pub patterns_form : Head → Form Patterns
patterns_form h =
    through join_patterns split_patterns
    (then (bytes 8) (λ start.
    then (bytes 8) (λ end.
    then (many (bytes 8) (break_count h.segments)) (λ breaks.
    then (many (bytes 8) (coefficient_count h.segments h.k)) (λ coefficients.
    then (many (bytes 8) (break_count h.other_segments)) (λ other_breaks.
    many (bytes 8) (coefficient_count h.other_segments (h.d - h.k))))))))

-- all that a file holds
pub record Contents : Type 0 where
  pub head : Head
  pub patterns : Patterns

abbrev pub contents : Head → Patterns → Contents
contents h x = record { head = h; patterns = x }

abbrev pub file_form : Form Contents
file_form =
    through (λ p. contents p.first p.second) (λ x. record { first = x.head; second = x.patterns }) (then head_form patterns_form)
