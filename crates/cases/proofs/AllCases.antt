-- Each worked case computes to what it should give.
use Rattle.std.proofs.Common.{refl}
use Rattle.port.specs.Turn.{turned_word}
use Rattle.socket.specs.Tables.{fresh_triggers}
use Rattle.cases.specs.Worked.{Case, Gives, whole_group, wrong_check_word, turned_bits, default_trigger, status_when_full, status_after_a_library_fault, last_group_past_the_end, image_cut_off, window_at_the_end, bad_row, smallest_cabinet}

pub all_cases : (k : Case) → Gives k
unfolding turned_word fresh_triggers
all_cases whole_group = refl
all_cases wrong_check_word = refl
all_cases turned_bits = refl
all_cases default_trigger = refl
all_cases status_when_full = refl
all_cases status_after_a_library_fault = refl
all_cases last_group_past_the_end = λ cells. refl
all_cases image_cut_off = refl
all_cases window_at_the_end = λ layer cell below. (refl, refl)
all_cases bad_row = refl
all_cases smallest_cabinet = refl
