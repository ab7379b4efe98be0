-- What every call on a job file begins with, and what it leaves of lent bytes (document 01, "Turned back, by number").
-- Assumes nothing.
use Rattle.std.specs.Prelude.{◌≡◌, Bool, cond, List, ℕ, zero, suc, ltb, length, take, drop}
use Rattle.jobfile.specs.File.{Answer, accepted, turned, max_file, read_job}
use Rattle.buffer.specs.Buffer.{cleared}

-- "tests go by rising number": 1 for a file that is too long, 2 where a lent buffer is too short, then what the file spells
unfoldable pub admitted : List ℕ → Bool → Answer
admitted file short = cond (ltb max_file (length file)) (turned 1) (cond short (turned 2) (read_job file))

-- the work buffer after a refusal: "after 1 or 2 unchanged; after any other answer its first 65,536 bytes are zero"
abbrev pub refused_left : ℕ → List ℕ → List ℕ
refused_left zero work = cleared work
refused_left (suc zero) work = work
refused_left (suc (suc zero)) work = work
refused_left (suc (suc (suc k))) work = cleared work

-- "after 1 or 2 the work buffer is unchanged; after any other answer its first 65,536 bytes are zero and the rest unchanged"
abbrev pub work_after : Answer → List ℕ → List ℕ
work_after (accepted j) work = cleared work
work_after (turned k) work = refused_left k work

-- n bytes are written from the start of a lent buffer, and no other byte of it is changed
pub record WrittenFirst (n : ℕ) (bytes before after : List ℕ) : Type 0 where
  pub count : length bytes ≡ n
  pub first : take n after ≡ bytes
  pub long : length after ≡ length before
  pub rest : drop n after ≡ drop n before
