-- The walk, one cell after another. Assumes nothing.
use Rattle.std.proofs.Common.{◌≡◌, ℕ, zero, suc, ◌+◌, ◌-◌, ◌<◌, ◌≤◌, Bool, true, false, cond, ◌&&◌, List, map, length, get_or, Some, Option, sym, refl, ap, ◌∙◌, arith}
use Rattle.std.proofs.lemmas.Bool.{and_parts, cond-true}
use Rattle.std.proofs.lemmas.List.{length-map}
use Rattle.std.proofs.lemmas.Option.{slice_get_within}
use Rattle.std.specs.List.{slice_get}
use Rattle.list_law.specs.Call.{Cell, Link, Met, bad, passed, present, absent, judged, met, look, followed, walk}
use Rattle.list_cells.specs.declared.cell.Cell as lent
use Rattle.list_cells.specs.Behind.{behind, goes_on, behind_at}
use Rattle.list_cells.specs.Views.{cell_of}
use Rattle.list_cells.proofs.Viewed.{viewed}

-- a walk that passes no cell ends there
stays : (go : ℕ → Link → Met) (m : Met) → ((p : ℕ) (l : Link) → m ≡ passed p l → ⊥) → m ≡ followed m go
stays go bad never = refl
stays go (passed p l) never = absurd (never p l refl)
stays go (present lead p l) never = refl
stays go (absent lead l) never = refl

module _ {K : Type 0} (below : K → K → Bool) (cells : List (Cell K)) (x : K) where
  -- a walk looks once, and goes on behind the cell that it passed
  looks : (room : ℕ) (lead : Option ℕ) (link : Link) → followed (look below cells x lead link) (λ p l. behind below cells x room p l) ≡ walk below cells x room lead link
  unfolding behind walk
  looks zero lead link = stops (look below cells x lead link)
    where
      stops : (m : Met) → followed m (λ p l. passed p l) ≡ m
      stops bad = refl
      stops (passed p l) = refl
      stops (present lead p l) = refl
      stops (absent lead l) = refl
  looks (suc room) lead link = refl

  -- the first cell is passed
  pub first_passed : (room : ℕ) (lead : Option ℕ) (link : Link) (p : ℕ) (l : Link) → passed p l ≡ look below cells x lead link → behind below cells x room p l ≡ walk below cells x room lead link
  first_passed room lead link p l e = ap (λ m. followed m (λ q k. behind below cells x room q k)) e ∙ looks room lead link

  -- the first cell is not passed
  pub first_ends : (room : ℕ) (lead : Option ℕ) (link : Link) (m : Met) → ((p : ℕ) (l : Link) → m ≡ passed p l → ⊥) → m ≡ look below cells x lead link → m ≡ walk below cells x room lead link
  first_ends room lead link m never e =
      let go = λ (q : ℕ) (k : Link). behind below cells x room q k in
      stays go m never ∙ ap (λ o. followed o go) e ∙ looks room lead link

  -- a walk behind a cell may pass one cell more than it has room for, since it meets that one
  pub walk_one_more : (room : ℕ) (p : ℕ) (l : Link) → behind below cells x (suc room) p l ≡ walk below cells x room (Some p) l
  unfolding behind
  walk_one_more room p l = refl

module _ {K : Type 0} (below : K → K → Bool) (cells : List (Cell K)) (x : K) (more i : ℕ) where
  -- a turn uses the room for one cell: a walk with what remains of it is what was left behind the lead
  one_less : (lead : ℕ) (link : Link) → i < more → walk below cells x (more - (i + 1)) (Some lead) link ≡ behind below cells x (more - i) lead link
  one_less lead link h = sym (walk_one_more below cells x (more - (i + 1)) lead link) ∙ ap (λ n. behind below cells x n lead link) used
    where
      used : suc (more - (i + 1)) ≡ more - i
      used = omega arith

  -- a cell is passed: the rest of the walk begins behind it
  pub walk_on : (lead : ℕ) (link : Link) (p : ℕ) (l : Link) → i < more → passed p l ≡ look below cells x (Some lead) link → behind below cells x (more - (i + 1)) p l ≡ behind below cells x (more - i) lead link
  walk_on lead link p l h e = first_passed below cells x (more - (i + 1)) (Some lead) link p l e ∙ one_less lead link h

  -- the walk ends where no cell is passed
  pub walk_ends : (lead : ℕ) (link : Link) (m : Met) → i < more → ((p : ℕ) (l : Link) → m ≡ passed p l → ⊥) → m ≡ look below cells x (Some lead) link → m ≡ behind below cells x (more - i) lead link
  walk_ends lead link m h never e = first_ends below cells x (more - (i + 1)) (Some lead) link m never e ∙ one_less lead link h

  -- the last cell is passed, and the window ends there
  pub walk_last : (lead : ℕ) (link : Link) → more ≤ i → passed lead link ≡ behind below cells x (more - i) lead link
  unfolding behind
  walk_last lead link h = ap (λ n. behind below cells x n lead link) z
    where
      z : 0 ≡ more - i
      z = omega arith

module _ {K : Type 0} (below : K → K → Bool) (cells : List (Cell K)) (x : K) (lead : Option ℕ) (p : ℕ) (c : Cell K) (found : Some c ≡ slice_get cells p) where
  -- the cell that a link leads to
  here : met below x lead p (Some c) ≡ look below cells x lead (Some p)
  here = ap (met below x lead p) found

  -- it is passed
  pub passed_here : (c.listed && below c.key x) ≡ true → passed p c.link ≡ look below cells x lead (Some p)
  passed_here e =
      let both = and_parts c.listed (below c.key x) e in
      ap (λ b. judged b (below x c.key) lead p c.link) (sym both.1) ∙ sym (cond-true c.listed _ _ both.0) ∙ here

  -- it is not passed
  pub ends_here : (c.listed && below c.key x) ≡ false → (q : ℕ) (l : Link) → look below cells x lead (Some p) ≡ passed q l → ⊥
  ends_here e q l is = go c.listed (below c.key x) (below x c.key) e (here ∙ is)
    where
      go : (a b d : Bool) → (a && b) ≡ false → cond a (judged b d lead p c.link) bad ≡ passed q l → ⊥
      go true true d e is = let z : ◌≡◌ {A = ℕ} 0 1 = cc in absurd (omega arith)
      go true false true e is = let z : ◌≡◌ {A = ℕ} 0 1 = cc in absurd (omega arith)
      go true false false e is = let z : ◌≡◌ {A = ℕ} 0 1 = cc in absurd (omega arith)
      go false b d e is = let z : ◌≡◌ {A = ℕ} 0 1 = cc in absurd (omega arith)

-- a walk behind the cell at a place is one behind that place
pub from_here : {K : Type 0} (below : K → K → Bool) (cells : List (Cell K)) (x : K) (more p : ℕ) (c : Cell K) → slice_get cells p ≡ Some c → behind below cells x more p c.link ≡ behind_at below cells x more p
from_here below cells x more p c read = sym (ap (goes_on below cells x more p) read)

-- the cell at a place, as the views have it, where the place is also known by another number
pub read_at : {K : Type 0} (cells : List (lent.Cell K)) (at p : ℕ) (d : lent.Cell K) → at ≡ p → p < length cells → slice_get (map cell_of cells) p ≡ Some (cell_of (get_or cells at d))
read_at cells at p d e h =
    viewed cells p d h ∙ ap (λ n. Some (cell_of (get_or cells n d))) (sym e)

-- a place at which the views have a cell
pub there : {K : Type 0} (cells : List (lent.Cell K)) (p : ℕ) (c : Cell K) → Some c ≡ slice_get (map cell_of cells) p → p < length cells
there cells p c found =
    let within : p < length (map cell_of cells) = slice_get_within (map cell_of cells) p c (sym found) in
    let same : ◌≡◌ (length (map cell_of cells)) (length cells) = length-map cells cell_of in
    omega arith

-- one turn of the walk behind a cell that it passed, at the place `lead`, which is also known by the number `at`; w is the whole walk
module _ {K : Type 0} (below : K → K → Bool) (cells : List (lent.Cell K)) (x : K) (more i at lead : ℕ) (d : lent.Cell K) (w : Met) (same : at ≡ lead) (within : lead < length cells) (rest : behind_at below (map cell_of cells) x (more - i) lead ≡ w) where
  -- what is left of the walk, by the cell's link
  left : behind below (map cell_of cells) x (more - i) lead (cell_of (get_or cells at d)).link ≡ w
  left = from_here below (map cell_of cells) x (more - i) lead (cell_of (get_or cells at d)) (read_at cells at lead d same within) ∙ rest

  -- the next cell is passed
  pub turn_goes_on : (place : ℕ) (next : Cell K) → i < more → Some place ≡ (cell_of (get_or cells at d)).link → Some next ≡ slice_get (map cell_of cells) place → (next.listed && below next.key x) ≡ true → behind_at below (map cell_of cells) x (more - (i + 1)) place ≡ w
  turn_goes_on place next h named found e =
      sym (from_here below (map cell_of cells) x (more - (i + 1)) place next (sym found))
      ∙ walk_on below (map cell_of cells) x more i lead (cell_of (get_or cells at d)).link place next.link h (passed_here below (map cell_of cells) x (Some lead) place next found e ∙ ap (look below (map cell_of cells) x (Some lead)) named)
      ∙ left

  -- no cell is passed, and the walk ends
  pub turn_ends : (m : Met) (link : Link) → i < more → link ≡ (cell_of (get_or cells at d)).link → ((p : ℕ) (l : Link) → m ≡ passed p l → ⊥) → m ≡ look below (map cell_of cells) x (Some lead) link → m ≡ w
  turn_ends m link h named never e =
      walk_ends below (map cell_of cells) x more i lead (cell_of (get_or cells at d)).link m h never (e ∙ ap (look below (map cell_of cells) x (Some lead)) named) ∙ left

  -- there is no turn more
  pub no_turn_more : more ≤ i → passed lead (cell_of (get_or cells at d)).link ≡ w
  no_turn_more h = walk_last below (map cell_of cells) x more i lead (cell_of (get_or cells at d)).link h ∙ left
