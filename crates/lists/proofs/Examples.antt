-- The definitions of specs/ at small examples: each holds by computation. Assumes nothing.
use Rattle.laws.proofs.Base.{◌≡◌, refl, [], ◌∷◌}
use Rattle.laws.specs.Writing.{over}
use Rattle.lists.specs.Pushing.{held_with, held_with_all}

-- A list of three places, of which two are held: the count is put behind them.
room_for_one : over (held_with (5 ∷ 6 ∷ 0 ∷ []) 2 7) (5 ∷ 6 ∷ 0 ∷ []) ≡ 5 ∷ 6 ∷ 7 ∷ []
room_for_one = refl

-- Two of two are held: the oldest goes.
full : over (held_with (5 ∷ 6 ∷ []) 2 7) (5 ∷ 6 ∷ []) ≡ 6 ∷ 7 ∷ []
full = refl

-- One of three is held: what lies past the held entries stays.
rest_stays : over (held_with (5 ∷ 8 ∷ 9 ∷ []) 1 7) (5 ∷ 8 ∷ 9 ∷ []) ≡ 5 ∷ 7 ∷ 9 ∷ []
rest_stays = refl

-- There is no place: nothing is held.
no_place : held_with [] 0 7 ≡ []
no_place = refl

-- A list of counts: behind those that are held, with the oldest gone, and more than there are places.
all_behind_lem : over (held_with_all (5 ∷ 8 ∷ 9 ∷ 4 ∷ []) 1 (1 ∷ 2 ∷ [])) (5 ∷ 8 ∷ 9 ∷ 4 ∷ []) ≡ 5 ∷ 1 ∷ 2 ∷ 4 ∷ []
all_behind_lem = refl

all_but_oldest : over (held_with_all (5 ∷ 6 ∷ 7 ∷ []) 3 (1 ∷ 2 ∷ [])) (5 ∷ 6 ∷ 7 ∷ []) ≡ 7 ∷ 1 ∷ 2 ∷ []
all_but_oldest = refl

last_alone : over (held_with_all (5 ∷ 6 ∷ []) 1 (1 ∷ 2 ∷ 3 ∷ [])) (5 ∷ 6 ∷ []) ≡ 2 ∷ 3 ∷ []
last_alone = refl
