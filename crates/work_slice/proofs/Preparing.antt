-- What `prepare` writes and tests.
use mathlib.Core.Path.{◌≡◌, refl, ap, ◌∙◌}
use mathlib.Core.Bool.{Bool, not, ◌||◌}
use mathlib.Core.List.{List}
use Prim.Native.Nat.{ℕ, zero, suc, ◌+◌, ◌-◌, ◌*◌, ◌≤◌, ◌<◌}
use native.Mathlib.Omega.{arith}
use lib.ListN.{length}
use lib.Ieee.{Float, nan, le}
use lib.Ieee.Scale.{finite}
use Rattle.window.specs.Cells.{at}
use Rattle.window.specs.Window.{window, splice}
use Rattle.window.proofs.Windows.{length_window, length_splice, window_same}
use Rattle.window.proofs.Joined.{list_length, list_at, table_length}
use Rattle.window.proofs.TwoParts.{Apart, both_first}
use Rattle.request.specs.Any.{any}
use Rattle.request.specs.Parameters.{normalised_of, length_of, any_fall, unreliable}
use Rattle.smoothing.specs.Checks.{overflows}
use Rattle.smoothing.specs.Rows.{Task, Units, task_of, centred}
use Rattle.work_slice.specs.Rows.{s_of}

-- equal tests
pub any_ap : (f g : ℕ → Bool) (n : ℕ) → ((i : ℕ) → i < n → f i ≡ g i) → any n f ≡ any n g
unfolding any
any_ap f g zero h = refl
any_ap f g (suc n) h = rw (any_ap f g n (λ i l. h i (omega arith)), h n (omega arith))

-- 6, on the stored parameters
pub unreliable_is : (list : List Float) (n : ℕ) (whole : Float) (s : List Float) → whole ≡ length_of list n
    → s ≡ s_of list n
    → (not (finite whole) || any_fall (length s) (at s)) ≡ unreliable list n
unfolding unreliable
unreliable_is list n whole s e h =
    let f = normalised_of list n in
    let l : length s ≡ n = ap length h ∙ list_length n f in
    let same : (i : ℕ) → i < n → at s i ≡ f i = λ i g. ap (λ (v : List Float). at v i) h ∙ list_at n f nan i g in
    rw (e, l) (ap (λ (b : Bool). not (finite (length_of list n)) || b)
    (any_ap (λ i. le (at s (i + 1)) (at s i)) (λ i. le (f (i + 1)) (f i)) (n - 1)
    (λ i g. (λ j. le (same (i + 1) (omega arith) j) (same i (omega arith) j)))))

-- 7, on the stored points
pub overflow_is : (q : Task) (y : List Float) → y ≡ q.y → any (length y) (λ i. not (finite (at y i))) ≡ overflows q
unfolding overflows
overflow_is q y e = ap (λ (v : List Float). any (length v) (λ i. not (finite (at v i)))) e

-- ---- the parameters are put in the first n cells of w
pub front_long : (n : ℕ) (w : List Float) → n ≤ length w → length (window 0 n w) ≡ n
front_long n w h = length_window 0 n w (omega arith) h ∙ omega arith

-- v is what `put_parameters` ensures of them, of which there are list m for m waypoints
pub record Put (list : ℕ → List Float) (n : ℕ) (w v : List Float) : Type 0 where
  pub fits : n ≤ length w
  pub put : v ≡ s_of (list (length (window 0 n w))) (length (window 0 n w))

module _ {list : ℕ → List Float} {n : ℕ} {w v : List Float} (P : Put list n w v) where
  put_is : v ≡ s_of (list n) n
  put_is = P.put ∙ ap (λ (m : ℕ). s_of (list m) m) (front_long n w P.fits)

  -- the last parameter less the first, as `put_parameters` gives it
  pub put_range : {x : Float} → x ≡ length_of (list (length (window 0 n w))) (length (window 0 n w)) → x ≡ length_of (list n) n
  put_range e = e ∙ ap (λ (m : ℕ). length_of (list m) m) (front_long n w P.fits)

  pub put_count : length v ≡ n - 0
  put_count = ap length put_is ∙ list_length n _ ∙ omega arith

  pub put_long : length (splice 0 n v w) ≡ length w
  put_long = length_splice 0 n v w (omega arith) P.fits put_count

  pub put_read : window 0 n (splice 0 n v w) ≡ s_of (list n) n
  put_read = window_same 0 n v w (omega (arith, P.fits)) put_count ∙ put_is

  -- the parameters once they are written
  pub put_stays : {b f : ℕ} {z : List Float} → Apart 0 n b f v z w → window 0 (0 + n) (splice b f z (splice 0 n v w)) ≡ s_of (list n) n
  put_stays {b} {f} {z} A =
      ap (λ (i : ℕ). window 0 i (splice b f z (splice 0 n v w))) {x = 0 + n} {y = n} (omega arith) ∙ both_first A ∙ put_is

-- the coordinates of a task
pub y_length : (n k : ℕ) (s : List Float) (u : Units) → length (task_of n k s u).y ≡ n * k
unfolding task_of centred
y_length n k s u = table_length n k _
