-- The summary of a run. Each line ends with a line feed.
use Rattle.std.specs.Prelude.{ℕ, ◌-◌, Bool, cond, List, [], ◌++◌, length, codes, decimal, count_by, ◌==◌}
use Rattle.std.specs.List.{range_with_len, flat_map}
use Rattle.replay.specs.declared.calls.Answer.{Answer}
use Rattle.journaling.specs.Answers.{tally, last_pairs}

-- how many of these are so
abbrev pub so : List Bool → ℕ
so flags = count_by (λ b. b) flags

-- the line of a refusal's number; none where no call was refused with it
abbrev pub refusal_line : ℕ → ℕ → List ℕ
refusal_line refusal n = cond (n == 0) [] (codes "refused " ++ (decimal refusal ++ (codes ": " ++ (decimal n ++ codes "\n"))))

-- the lines of the refusals that occurred, their numbers rising
unfoldable pub refusal_lines : List Answer → List ℕ
refusal_lines answers = flat_map (λ v. refusal_line v (tally answers v)) (range_with_len 1 17)

-- the calls made, and how many were granted; an answer of 18 says that no call was made
abbrev pub call_lines : List Answer → List ℕ
call_lines answers = codes "calls " ++ (decimal (length answers - tally answers 18) ++ (codes "\ngranted " ++ (decimal (tally answers 0) ++ codes "\n")))

-- the lines that were not read, the doors that stand, those that are held, and the pairs of the last linking
abbrev pub state_lines : List Bool → List Bool → List Answer → List ℕ
state_lines standing held answers =
    codes "unread " ++ (decimal (tally answers 18)
    ++ (codes "\nstanding " ++ (decimal (so standing)
    ++ (codes "\nheld " ++ (decimal (so held)
    ++ (codes "\npairs " ++ (decimal (last_pairs answers) ++ codes "\n")))))))

-- the whole summary
abbrev pub summary_text : List Bool → List Bool → List Answer → List ℕ
summary_text standing held answers = (call_lines answers ++ refusal_lines answers) ++ state_lines standing held answers
