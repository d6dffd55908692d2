-- What a pass that holds no key has taken of requests with times, one by one. Public clauses cite it.
use Rattle.std.specs.Prelude.{◌≡◌, ℕ, ◌+◌, Bool, List, length, Some, refl, ⊤}
use Rattle.std.specs.Coded.{Coded, code_by, coded×, coded_list, coded_ℕ}
use Rattle.std.specs.Map.{keys_of, lookup}
use Rattle.clru_model.specs.Requests.{since}
use Rattle.clru_curve.specs.declared.numbered.Numbered.{Numbered}
use Rattle.clru_curve.specs.declared.seen.Seen.{Seen}
use Rattle.clru_curve.specs.IdlePasses.{IsIdlePass, timed_pass}
use Rattle.clru_curve.specs.Latest.{IsLatest}
use Rattle.clru_curve.specs.Rising.{numbered_code}

-- blocks of bits for the latest requests of keys, how many requests there were, and how many at each distance that came soon enough
pub record Counted : Type 0 where
  pub blocks : List Numbered
  pub requests : ℕ
  pub histogram : List ℕ

abbrev pub counted : List Numbered → ℕ → List ℕ → Counted
counted bs n h = record { blocks = bs; requests = n; histogram = h }

abbrev pub counted_code : Coded Counted
counted_code =
    code_by (List Numbered × (ℕ × List ℕ)) (coded× (coded_list numbered_code) (coded× coded_ℕ (coded_list coded_ℕ)))
    (λ c. (c.blocks, (c.requests, c.histogram))) (λ t. counted t.0 t.1.0 t.1.1) (λ _. refl)

module _ {K : Type 0} (eq : K → K → Bool) where
  -- a pass that has taken these requests under the idle limit, the latest first: with the latest requests of their keys, by position
  -- and time, it is one that holds keys
  pub record IsPositionPass (idle : ℕ) (past : List (K × ℕ)) (c : Counted) : Type 0 where
    pub seen : List (K × Seen)
    pub taken : IsIdlePass eq idle {S = ⊤} past (timed_pass seen c.blocks c.requests c.histogram idle tt)
    pub latest : (x : K) (s : Seen) → lookup (eq x) seen ≡ Some s
        → s.position + 1 + length (since eq x (keys_of past)) ≡ length past

  -- what holds of every pass: it has taken some requests under some limit
  pub record IsSoundCounted (nodes : List ℕ) (c : Counted) : Type 0 where
    pub latest : IsLatest c.blocks nodes c.requests
    pub idle : ℕ
    pub past : List (K × ℕ)
    pub taken : IsPositionPass idle past c
