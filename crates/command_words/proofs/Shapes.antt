-- What clap makes of `init` and its parts.
use Rattle.std.proofs.Common.{◌≡◌, ◌≤◌, ◌++◌, ◌+◌, ℕ, List, [], ◌∷◌, Option, Some, None, true, false, refl, codes, decimal, length, ap, subst, arith, option_map}
use Rattle.std.specs.List.{AllByRecursion}
use Rattle.clap.specs.Words.{Text, subcommand_of, takes}
use Rattle.clap.proofs.OnLiterals.{clap_on_literals}
use Rattle.command_words.specs.Commands.{commands, init_in}
use Rattle.command_words.specs.Words.{Part, file, pages, log_kib, Fits, all_words, files_in, pages_in, logs_in, Gives}
use Rattle.command_words.proofs.Parsing.{plain_number, plain_file, same_head}
use Rattle.command_words.specs.Init.{IsPlain}

-- the words are taken, and this is read of them
pub record Reads (words : List Text) (name : Text) (of_pages of_log : Option Text) : Type 0 where
  pub taken : takes commands words ≡ true
  pub read : init_in (subcommand_of commands words) ≡ Some (codes "init", (Some name, (of_pages, of_log)))

reads_f : (f : Text) → IsPlain f → Reads (codes "init" ∷ f ∷ []) f (None) (None)
unfolding clap_on_literals
reads_f [] h_f = absurd h_f
reads_f (f0 ∷ fs) h_f = record { taken = rw (h_f, h_f) refl; read = rw (h_f, h_f) refl }

reads_fpj : (f p : Text) → IsPlain f → Reads (codes "init" ∷ f ∷ (codes "--pages=" ++ p) ∷ []) f (Some p) (None)
unfolding clap_on_literals
reads_fpj [] p h_f = absurd h_f
reads_fpj (f0 ∷ fs) p h_f = record { taken = rw (h_f, h_f) refl; read = rw (h_f, h_f) refl }

reads_fpa : (f p : Text) → IsPlain f → IsPlain p → Reads (codes "init" ∷ f ∷ codes "--pages" ∷ p ∷ []) f (Some p) (None)
unfolding clap_on_literals
reads_fpa [] p h_f h_p = absurd h_f
reads_fpa (f0 ∷ fs) [] h_f h_p = absurd h_p
reads_fpa (f0 ∷ fs) (p0 ∷ ps) h_f h_p = record { taken = rw (h_f, h_f, h_p, h_p) refl; read = rw (h_f, h_f, h_p, h_p) refl }

reads_pjf : (f p : Text) → IsPlain f → Reads (codes "init" ∷ (codes "--pages=" ++ p) ∷ f ∷ []) f (Some p) (None)
unfolding clap_on_literals
reads_pjf [] p h_f = absurd h_f
reads_pjf (f0 ∷ fs) p h_f = record { taken = rw (h_f, h_f) refl; read = rw (h_f, h_f) refl }

reads_paf : (f p : Text) → IsPlain p → IsPlain f → Reads (codes "init" ∷ codes "--pages" ∷ p ∷ f ∷ []) f (Some p) (None)
unfolding clap_on_literals
reads_paf f [] h_p h_f = absurd h_p
reads_paf [] (p0 ∷ ps) h_p h_f = absurd h_f
reads_paf (f0 ∷ fs) (p0 ∷ ps) h_p h_f = record { taken = rw (h_p, h_p, h_f, h_f) refl; read = rw (h_p, h_p, h_f, h_f) refl }

reads_flj : (f l : Text) → IsPlain f → Reads (codes "init" ∷ f ∷ (codes "--log-kib=" ++ l) ∷ []) f (None) (Some l)
unfolding clap_on_literals
reads_flj [] l h_f = absurd h_f
reads_flj (f0 ∷ fs) l h_f = record { taken = rw (h_f, h_f) refl; read = rw (h_f, h_f) refl }

reads_fla : (f l : Text) → IsPlain f → IsPlain l → Reads (codes "init" ∷ f ∷ codes "--log-kib" ∷ l ∷ []) f (None) (Some l)
unfolding clap_on_literals
reads_fla [] l h_f h_l = absurd h_f
reads_fla (f0 ∷ fs) [] h_f h_l = absurd h_l
reads_fla (f0 ∷ fs) (l0 ∷ ls) h_f h_l = record { taken = rw (h_f, h_f, h_l, h_l) refl; read = rw (h_f, h_f, h_l, h_l) refl }

reads_ljf : (f l : Text) → IsPlain f → Reads (codes "init" ∷ (codes "--log-kib=" ++ l) ∷ f ∷ []) f (None) (Some l)
unfolding clap_on_literals
reads_ljf [] l h_f = absurd h_f
reads_ljf (f0 ∷ fs) l h_f = record { taken = rw (h_f, h_f) refl; read = rw (h_f, h_f) refl }

reads_laf : (f l : Text) → IsPlain l → IsPlain f → Reads (codes "init" ∷ codes "--log-kib" ∷ l ∷ f ∷ []) f (None) (Some l)
unfolding clap_on_literals
reads_laf f [] h_l h_f = absurd h_l
reads_laf [] (l0 ∷ ls) h_l h_f = absurd h_f
reads_laf (f0 ∷ fs) (l0 ∷ ls) h_l h_f = record { taken = rw (h_l, h_l, h_f, h_f) refl; read = rw (h_l, h_l, h_f, h_f) refl }

reads_fljpj : (f p l : Text) → IsPlain f → Reads (codes "init" ∷ f ∷ (codes "--log-kib=" ++ l) ∷ (codes "--pages=" ++ p) ∷ []) f (Some p) (Some l)
unfolding clap_on_literals
reads_fljpj [] p l h_f = absurd h_f
reads_fljpj (f0 ∷ fs) p l h_f = record { taken = rw (h_f, h_f) refl; read = rw (h_f, h_f) refl }

reads_fljpa : (f p l : Text) → IsPlain f → IsPlain p → Reads (codes "init" ∷ f ∷ (codes "--log-kib=" ++ l) ∷ codes "--pages" ∷ p ∷ []) f (Some p) (Some l)
unfolding clap_on_literals
reads_fljpa [] p l h_f h_p = absurd h_f
reads_fljpa (f0 ∷ fs) [] l h_f h_p = absurd h_p
reads_fljpa (f0 ∷ fs) (p0 ∷ ps) l h_f h_p = record { taken = rw (h_f, h_f, h_p, h_p) refl; read = rw (h_f, h_f, h_p, h_p) refl }

reads_flapj : (f p l : Text) → IsPlain f → IsPlain l → Reads (codes "init" ∷ f ∷ codes "--log-kib" ∷ l ∷ (codes "--pages=" ++ p) ∷ []) f (Some p) (Some l)
unfolding clap_on_literals
reads_flapj [] p l h_f h_l = absurd h_f
reads_flapj (f0 ∷ fs) p [] h_f h_l = absurd h_l
reads_flapj (f0 ∷ fs) p (l0 ∷ ls) h_f h_l = record { taken = rw (h_f, h_f, h_l, h_l) refl; read = rw (h_f, h_f, h_l, h_l) refl }

reads_flapa : (f p l : Text) → IsPlain f → IsPlain l → IsPlain p → Reads (codes "init" ∷ f ∷ codes "--log-kib" ∷ l ∷ codes "--pages" ∷ p ∷ []) f (Some p) (Some l)
unfolding clap_on_literals
reads_flapa [] p l h_f h_l h_p = absurd h_f
reads_flapa (f0 ∷ fs) p [] h_f h_l h_p = absurd h_l
reads_flapa (f0 ∷ fs) [] (l0 ∷ ls) h_f h_l h_p = absurd h_p
reads_flapa (f0 ∷ fs) (p0 ∷ ps) (l0 ∷ ls) h_f h_l h_p = record { taken = rw (h_f, h_f, h_l, h_l, h_p, h_p) refl; read = rw (h_f, h_f, h_l, h_l, h_p, h_p) refl }

reads_fpjlj : (f p l : Text) → IsPlain f → Reads (codes "init" ∷ f ∷ (codes "--pages=" ++ p) ∷ (codes "--log-kib=" ++ l) ∷ []) f (Some p) (Some l)
unfolding clap_on_literals
reads_fpjlj [] p l h_f = absurd h_f
reads_fpjlj (f0 ∷ fs) p l h_f = record { taken = rw (h_f, h_f) refl; read = rw (h_f, h_f) refl }

reads_fpjla : (f p l : Text) → IsPlain f → IsPlain l → Reads (codes "init" ∷ f ∷ (codes "--pages=" ++ p) ∷ codes "--log-kib" ∷ l ∷ []) f (Some p) (Some l)
unfolding clap_on_literals
reads_fpjla [] p l h_f h_l = absurd h_f
reads_fpjla (f0 ∷ fs) p [] h_f h_l = absurd h_l
reads_fpjla (f0 ∷ fs) p (l0 ∷ ls) h_f h_l = record { taken = rw (h_f, h_f, h_l, h_l) refl; read = rw (h_f, h_f, h_l, h_l) refl }

reads_fpalj : (f p l : Text) → IsPlain f → IsPlain p → Reads (codes "init" ∷ f ∷ codes "--pages" ∷ p ∷ (codes "--log-kib=" ++ l) ∷ []) f (Some p) (Some l)
unfolding clap_on_literals
reads_fpalj [] p l h_f h_p = absurd h_f
reads_fpalj (f0 ∷ fs) [] l h_f h_p = absurd h_p
reads_fpalj (f0 ∷ fs) (p0 ∷ ps) l h_f h_p = record { taken = rw (h_f, h_f, h_p, h_p) refl; read = rw (h_f, h_f, h_p, h_p) refl }

reads_fpala : (f p l : Text) → IsPlain f → IsPlain p → IsPlain l → Reads (codes "init" ∷ f ∷ codes "--pages" ∷ p ∷ codes "--log-kib" ∷ l ∷ []) f (Some p) (Some l)
unfolding clap_on_literals
reads_fpala [] p l h_f h_p h_l = absurd h_f
reads_fpala (f0 ∷ fs) [] l h_f h_p h_l = absurd h_p
reads_fpala (f0 ∷ fs) (p0 ∷ ps) [] h_f h_p h_l = absurd h_l
reads_fpala (f0 ∷ fs) (p0 ∷ ps) (l0 ∷ ls) h_f h_p h_l = record { taken = rw (h_f, h_f, h_p, h_p, h_l, h_l) refl; read = rw (h_f, h_f, h_p, h_p, h_l, h_l) refl }

reads_ljfpj : (f p l : Text) → IsPlain f → Reads (codes "init" ∷ (codes "--log-kib=" ++ l) ∷ f ∷ (codes "--pages=" ++ p) ∷ []) f (Some p) (Some l)
unfolding clap_on_literals
reads_ljfpj [] p l h_f = absurd h_f
reads_ljfpj (f0 ∷ fs) p l h_f = record { taken = rw (h_f, h_f) refl; read = rw (h_f, h_f) refl }

reads_ljfpa : (f p l : Text) → IsPlain f → IsPlain p → Reads (codes "init" ∷ (codes "--log-kib=" ++ l) ∷ f ∷ codes "--pages" ∷ p ∷ []) f (Some p) (Some l)
unfolding clap_on_literals
reads_ljfpa [] p l h_f h_p = absurd h_f
reads_ljfpa (f0 ∷ fs) [] l h_f h_p = absurd h_p
reads_ljfpa (f0 ∷ fs) (p0 ∷ ps) l h_f h_p = record { taken = rw (h_f, h_f, h_p, h_p) refl; read = rw (h_f, h_f, h_p, h_p) refl }

reads_lafpj : (f p l : Text) → IsPlain l → IsPlain f → Reads (codes "init" ∷ codes "--log-kib" ∷ l ∷ f ∷ (codes "--pages=" ++ p) ∷ []) f (Some p) (Some l)
unfolding clap_on_literals
reads_lafpj f p [] h_l h_f = absurd h_l
reads_lafpj [] p (l0 ∷ ls) h_l h_f = absurd h_f
reads_lafpj (f0 ∷ fs) p (l0 ∷ ls) h_l h_f = record { taken = rw (h_l, h_l, h_f, h_f) refl; read = rw (h_l, h_l, h_f, h_f) refl }

reads_lafpa : (f p l : Text) → IsPlain l → IsPlain f → IsPlain p → Reads (codes "init" ∷ codes "--log-kib" ∷ l ∷ f ∷ codes "--pages" ∷ p ∷ []) f (Some p) (Some l)
unfolding clap_on_literals
reads_lafpa f p [] h_l h_f h_p = absurd h_l
reads_lafpa [] p (l0 ∷ ls) h_l h_f h_p = absurd h_f
reads_lafpa (f0 ∷ fs) [] (l0 ∷ ls) h_l h_f h_p = absurd h_p
reads_lafpa (f0 ∷ fs) (p0 ∷ ps) (l0 ∷ ls) h_l h_f h_p = record { taken = rw (h_l, h_l, h_f, h_f, h_p, h_p) refl; read = rw (h_l, h_l, h_f, h_f, h_p, h_p) refl }

reads_ljpjf : (f p l : Text) → IsPlain f → Reads (codes "init" ∷ (codes "--log-kib=" ++ l) ∷ (codes "--pages=" ++ p) ∷ f ∷ []) f (Some p) (Some l)
unfolding clap_on_literals
reads_ljpjf [] p l h_f = absurd h_f
reads_ljpjf (f0 ∷ fs) p l h_f = record { taken = rw (h_f, h_f) refl; read = rw (h_f, h_f) refl }

reads_ljpaf : (f p l : Text) → IsPlain p → IsPlain f → Reads (codes "init" ∷ (codes "--log-kib=" ++ l) ∷ codes "--pages" ∷ p ∷ f ∷ []) f (Some p) (Some l)
unfolding clap_on_literals
reads_ljpaf f [] l h_p h_f = absurd h_p
reads_ljpaf [] (p0 ∷ ps) l h_p h_f = absurd h_f
reads_ljpaf (f0 ∷ fs) (p0 ∷ ps) l h_p h_f = record { taken = rw (h_p, h_p, h_f, h_f) refl; read = rw (h_p, h_p, h_f, h_f) refl }

reads_lapjf : (f p l : Text) → IsPlain l → IsPlain f → Reads (codes "init" ∷ codes "--log-kib" ∷ l ∷ (codes "--pages=" ++ p) ∷ f ∷ []) f (Some p) (Some l)
unfolding clap_on_literals
reads_lapjf f p [] h_l h_f = absurd h_l
reads_lapjf [] p (l0 ∷ ls) h_l h_f = absurd h_f
reads_lapjf (f0 ∷ fs) p (l0 ∷ ls) h_l h_f = record { taken = rw (h_l, h_l, h_f, h_f) refl; read = rw (h_l, h_l, h_f, h_f) refl }

reads_lapaf : (f p l : Text) → IsPlain l → IsPlain p → IsPlain f → Reads (codes "init" ∷ codes "--log-kib" ∷ l ∷ codes "--pages" ∷ p ∷ f ∷ []) f (Some p) (Some l)
unfolding clap_on_literals
reads_lapaf f p [] h_l h_p h_f = absurd h_l
reads_lapaf f [] (l0 ∷ ls) h_l h_p h_f = absurd h_p
reads_lapaf [] (p0 ∷ ps) (l0 ∷ ls) h_l h_p h_f = absurd h_f
reads_lapaf (f0 ∷ fs) (p0 ∷ ps) (l0 ∷ ls) h_l h_p h_f = record { taken = rw (h_l, h_l, h_p, h_p, h_f, h_f) refl; read = rw (h_l, h_l, h_p, h_p, h_f, h_f) refl }

reads_pjflj : (f p l : Text) → IsPlain f → Reads (codes "init" ∷ (codes "--pages=" ++ p) ∷ f ∷ (codes "--log-kib=" ++ l) ∷ []) f (Some p) (Some l)
unfolding clap_on_literals
reads_pjflj [] p l h_f = absurd h_f
reads_pjflj (f0 ∷ fs) p l h_f = record { taken = rw (h_f, h_f) refl; read = rw (h_f, h_f) refl }

reads_pjfla : (f p l : Text) → IsPlain f → IsPlain l → Reads (codes "init" ∷ (codes "--pages=" ++ p) ∷ f ∷ codes "--log-kib" ∷ l ∷ []) f (Some p) (Some l)
unfolding clap_on_literals
reads_pjfla [] p l h_f h_l = absurd h_f
reads_pjfla (f0 ∷ fs) p [] h_f h_l = absurd h_l
reads_pjfla (f0 ∷ fs) p (l0 ∷ ls) h_f h_l = record { taken = rw (h_f, h_f, h_l, h_l) refl; read = rw (h_f, h_f, h_l, h_l) refl }

reads_paflj : (f p l : Text) → IsPlain p → IsPlain f → Reads (codes "init" ∷ codes "--pages" ∷ p ∷ f ∷ (codes "--log-kib=" ++ l) ∷ []) f (Some p) (Some l)
unfolding clap_on_literals
reads_paflj f [] l h_p h_f = absurd h_p
reads_paflj [] (p0 ∷ ps) l h_p h_f = absurd h_f
reads_paflj (f0 ∷ fs) (p0 ∷ ps) l h_p h_f = record { taken = rw (h_p, h_p, h_f, h_f) refl; read = rw (h_p, h_p, h_f, h_f) refl }

reads_pafla : (f p l : Text) → IsPlain p → IsPlain f → IsPlain l → Reads (codes "init" ∷ codes "--pages" ∷ p ∷ f ∷ codes "--log-kib" ∷ l ∷ []) f (Some p) (Some l)
unfolding clap_on_literals
reads_pafla f [] l h_p h_f h_l = absurd h_p
reads_pafla [] (p0 ∷ ps) l h_p h_f h_l = absurd h_f
reads_pafla (f0 ∷ fs) (p0 ∷ ps) [] h_p h_f h_l = absurd h_l
reads_pafla (f0 ∷ fs) (p0 ∷ ps) (l0 ∷ ls) h_p h_f h_l = record { taken = rw (h_p, h_p, h_f, h_f, h_l, h_l) refl; read = rw (h_p, h_p, h_f, h_f, h_l, h_l) refl }

reads_pjljf : (f p l : Text) → IsPlain f → Reads (codes "init" ∷ (codes "--pages=" ++ p) ∷ (codes "--log-kib=" ++ l) ∷ f ∷ []) f (Some p) (Some l)
unfolding clap_on_literals
reads_pjljf [] p l h_f = absurd h_f
reads_pjljf (f0 ∷ fs) p l h_f = record { taken = rw (h_f, h_f) refl; read = rw (h_f, h_f) refl }

reads_pjlaf : (f p l : Text) → IsPlain l → IsPlain f → Reads (codes "init" ∷ (codes "--pages=" ++ p) ∷ codes "--log-kib" ∷ l ∷ f ∷ []) f (Some p) (Some l)
unfolding clap_on_literals
reads_pjlaf f p [] h_l h_f = absurd h_l
reads_pjlaf [] p (l0 ∷ ls) h_l h_f = absurd h_f
reads_pjlaf (f0 ∷ fs) p (l0 ∷ ls) h_l h_f = record { taken = rw (h_l, h_l, h_f, h_f) refl; read = rw (h_l, h_l, h_f, h_f) refl }

reads_paljf : (f p l : Text) → IsPlain p → IsPlain f → Reads (codes "init" ∷ codes "--pages" ∷ p ∷ (codes "--log-kib=" ++ l) ∷ f ∷ []) f (Some p) (Some l)
unfolding clap_on_literals
reads_paljf f [] l h_p h_f = absurd h_p
reads_paljf [] (p0 ∷ ps) l h_p h_f = absurd h_f
reads_paljf (f0 ∷ fs) (p0 ∷ ps) l h_p h_f = record { taken = rw (h_p, h_p, h_f, h_f) refl; read = rw (h_p, h_p, h_f, h_f) refl }

reads_palaf : (f p l : Text) → IsPlain p → IsPlain l → IsPlain f → Reads (codes "init" ∷ codes "--pages" ∷ p ∷ codes "--log-kib" ∷ l ∷ f ∷ []) f (Some p) (Some l)
unfolding clap_on_literals
reads_palaf f [] l h_p h_l h_f = absurd h_p
reads_palaf f (p0 ∷ ps) [] h_p h_l h_f = absurd h_l
reads_palaf [] (p0 ∷ ps) (l0 ∷ ls) h_p h_l h_f = absurd h_f
reads_palaf (f0 ∷ fs) (p0 ∷ ps) (l0 ∷ ls) h_p h_l h_f = record { taken = rw (h_p, h_p, h_l, h_l, h_f, h_f) refl; read = rw (h_p, h_p, h_l, h_l, h_f, h_f) refl }

abbrev pub given : List ℕ → Option ℕ
given [] = None
given (n ∷ ns) = Some n

parts_length : (ps : List Part) → length ps ≡ length (files_in ps) + (length (pages_in ps) + length (logs_in ps))
parts_length [] = refl
parts_length (file a ∷ ps) = omega (arith, parts_length ps)
parts_length (pages j n ∷ ps) = omega (arith, parts_length ps)
parts_length (log_kib j n ∷ ps) = omega (arith, parts_length ps)

few : (default : ℕ) (ns : List ℕ) (n : ℕ) → Gives default ns n → length ns ≤ 1
few default [] n g = omega arith
few default (m ∷ []) n g = omega arith
few default (m ∷ k ∷ ns) n g = absurd g

abbrev ReadsParts : List Part → List ℕ → Type 0
ReadsParts ps name = Reads (codes "init" ∷ all_words ps) name (option_map decimal (given (pages_in ps))) (option_map decimal (given (logs_in ps)))

-- FILE once and each option at most once is read so, in any order
pub reads_parts : (dp dl : ℕ) (ps : List Part) (name : List ℕ) (np nl : ℕ) → AllByRecursion Fits ps → files_in ps ≡ name ∷ [] → Gives dp (pages_in ps) np → Gives dl (logs_in ps) nl → ReadsParts ps name
reads_parts dp dl [] name np nl fit one gp gl = absurd (cc)
reads_parts dp dl (file a0 ∷ []) name np nl fit one gp gl = subst (ReadsParts (file a0 ∷ [])) (same_head a0 name one) (reads_f a0 (plain_file a0 fit.0))
reads_parts dp dl (pages j0 n0 ∷ []) name np nl fit one gp gl = absurd (cc)
reads_parts dp dl (log_kib j0 n0 ∷ []) name np nl fit one gp gl = absurd (cc)
reads_parts dp dl (file a0 ∷ file a1 ∷ []) name np nl fit one gp gl = absurd (cc)
reads_parts dp dl (file a0 ∷ pages true n1 ∷ []) name np nl fit one gp gl = subst (ReadsParts (file a0 ∷ pages true n1 ∷ [])) (same_head a0 name one) (reads_fpj a0 (decimal n1) (plain_file a0 fit.0))
reads_parts dp dl (file a0 ∷ pages false n1 ∷ []) name np nl fit one gp gl = subst (ReadsParts (file a0 ∷ pages false n1 ∷ [])) (same_head a0 name one) (reads_fpa a0 (decimal n1) (plain_file a0 fit.0) (plain_number n1 (omega (arith, fit.1.0.0)) (omega (arith, fit.1.0.1))))
reads_parts dp dl (file a0 ∷ log_kib true n1 ∷ []) name np nl fit one gp gl = subst (ReadsParts (file a0 ∷ log_kib true n1 ∷ [])) (same_head a0 name one) (reads_flj a0 (decimal n1) (plain_file a0 fit.0))
reads_parts dp dl (file a0 ∷ log_kib false n1 ∷ []) name np nl fit one gp gl = subst (ReadsParts (file a0 ∷ log_kib false n1 ∷ [])) (same_head a0 name one) (reads_fla a0 (decimal n1) (plain_file a0 fit.0) (plain_number n1 (omega (arith, fit.1.0.0)) (omega (arith, fit.1.0.1))))
reads_parts dp dl (pages true n0 ∷ file a1 ∷ []) name np nl fit one gp gl = subst (ReadsParts (pages true n0 ∷ file a1 ∷ [])) (same_head a1 name one) (reads_pjf a1 (decimal n0) (plain_file a1 fit.1.0))
reads_parts dp dl (pages false n0 ∷ file a1 ∷ []) name np nl fit one gp gl = subst (ReadsParts (pages false n0 ∷ file a1 ∷ [])) (same_head a1 name one) (reads_paf a1 (decimal n0) (plain_number n0 (omega (arith, fit.0.0)) (omega (arith, fit.0.1))) (plain_file a1 fit.1.0))
reads_parts dp dl (pages j0 n0 ∷ pages j1 n1 ∷ []) name np nl fit one gp gl = absurd gp
reads_parts dp dl (pages j0 n0 ∷ log_kib j1 n1 ∷ []) name np nl fit one gp gl = absurd (cc)
reads_parts dp dl (log_kib true n0 ∷ file a1 ∷ []) name np nl fit one gp gl = subst (ReadsParts (log_kib true n0 ∷ file a1 ∷ [])) (same_head a1 name one) (reads_ljf a1 (decimal n0) (plain_file a1 fit.1.0))
reads_parts dp dl (log_kib false n0 ∷ file a1 ∷ []) name np nl fit one gp gl = subst (ReadsParts (log_kib false n0 ∷ file a1 ∷ [])) (same_head a1 name one) (reads_laf a1 (decimal n0) (plain_number n0 (omega (arith, fit.0.0)) (omega (arith, fit.0.1))) (plain_file a1 fit.1.0))
reads_parts dp dl (log_kib j0 n0 ∷ pages j1 n1 ∷ []) name np nl fit one gp gl = absurd (cc)
reads_parts dp dl (log_kib j0 n0 ∷ log_kib j1 n1 ∷ []) name np nl fit one gp gl = absurd gl
reads_parts dp dl (file a0 ∷ file a1 ∷ file a2 ∷ []) name np nl fit one gp gl = absurd (cc)
reads_parts dp dl (file a0 ∷ file a1 ∷ pages j2 n2 ∷ []) name np nl fit one gp gl = absurd (cc)
reads_parts dp dl (file a0 ∷ file a1 ∷ log_kib j2 n2 ∷ []) name np nl fit one gp gl = absurd (cc)
reads_parts dp dl (file a0 ∷ pages j1 n1 ∷ file a2 ∷ []) name np nl fit one gp gl = absurd (cc)
reads_parts dp dl (file a0 ∷ pages j1 n1 ∷ pages j2 n2 ∷ []) name np nl fit one gp gl = absurd gp
reads_parts dp dl (file a0 ∷ pages true n1 ∷ log_kib true n2 ∷ []) name np nl fit one gp gl = subst (ReadsParts (file a0 ∷ pages true n1 ∷ log_kib true n2 ∷ [])) (same_head a0 name one) (reads_fpjlj a0 (decimal n1) (decimal n2) (plain_file a0 fit.0))
reads_parts dp dl (file a0 ∷ pages true n1 ∷ log_kib false n2 ∷ []) name np nl fit one gp gl = subst (ReadsParts (file a0 ∷ pages true n1 ∷ log_kib false n2 ∷ [])) (same_head a0 name one) (reads_fpjla a0 (decimal n1) (decimal n2) (plain_file a0 fit.0) (plain_number n2 (omega (arith, fit.1.1.0.0)) (omega (arith, fit.1.1.0.1))))
reads_parts dp dl (file a0 ∷ pages false n1 ∷ log_kib true n2 ∷ []) name np nl fit one gp gl = subst (ReadsParts (file a0 ∷ pages false n1 ∷ log_kib true n2 ∷ [])) (same_head a0 name one) (reads_fpalj a0 (decimal n1) (decimal n2) (plain_file a0 fit.0) (plain_number n1 (omega (arith, fit.1.0.0)) (omega (arith, fit.1.0.1))))
reads_parts dp dl (file a0 ∷ pages false n1 ∷ log_kib false n2 ∷ []) name np nl fit one gp gl = subst (ReadsParts (file a0 ∷ pages false n1 ∷ log_kib false n2 ∷ [])) (same_head a0 name one) (reads_fpala a0 (decimal n1) (decimal n2) (plain_file a0 fit.0) (plain_number n1 (omega (arith, fit.1.0.0)) (omega (arith, fit.1.0.1))) (plain_number n2 (omega (arith, fit.1.1.0.0)) (omega (arith, fit.1.1.0.1))))
reads_parts dp dl (file a0 ∷ log_kib j1 n1 ∷ file a2 ∷ []) name np nl fit one gp gl = absurd (cc)
reads_parts dp dl (file a0 ∷ log_kib true n1 ∷ pages true n2 ∷ []) name np nl fit one gp gl = subst (ReadsParts (file a0 ∷ log_kib true n1 ∷ pages true n2 ∷ [])) (same_head a0 name one) (reads_fljpj a0 (decimal n2) (decimal n1) (plain_file a0 fit.0))
reads_parts dp dl (file a0 ∷ log_kib true n1 ∷ pages false n2 ∷ []) name np nl fit one gp gl = subst (ReadsParts (file a0 ∷ log_kib true n1 ∷ pages false n2 ∷ [])) (same_head a0 name one) (reads_fljpa a0 (decimal n2) (decimal n1) (plain_file a0 fit.0) (plain_number n2 (omega (arith, fit.1.1.0.0)) (omega (arith, fit.1.1.0.1))))
reads_parts dp dl (file a0 ∷ log_kib false n1 ∷ pages true n2 ∷ []) name np nl fit one gp gl = subst (ReadsParts (file a0 ∷ log_kib false n1 ∷ pages true n2 ∷ [])) (same_head a0 name one) (reads_flapj a0 (decimal n2) (decimal n1) (plain_file a0 fit.0) (plain_number n1 (omega (arith, fit.1.0.0)) (omega (arith, fit.1.0.1))))
reads_parts dp dl (file a0 ∷ log_kib false n1 ∷ pages false n2 ∷ []) name np nl fit one gp gl = subst (ReadsParts (file a0 ∷ log_kib false n1 ∷ pages false n2 ∷ [])) (same_head a0 name one) (reads_flapa a0 (decimal n2) (decimal n1) (plain_file a0 fit.0) (plain_number n1 (omega (arith, fit.1.0.0)) (omega (arith, fit.1.0.1))) (plain_number n2 (omega (arith, fit.1.1.0.0)) (omega (arith, fit.1.1.0.1))))
reads_parts dp dl (file a0 ∷ log_kib j1 n1 ∷ log_kib j2 n2 ∷ []) name np nl fit one gp gl = absurd gl
reads_parts dp dl (pages j0 n0 ∷ file a1 ∷ file a2 ∷ []) name np nl fit one gp gl = absurd (cc)
reads_parts dp dl (pages j0 n0 ∷ file a1 ∷ pages j2 n2 ∷ []) name np nl fit one gp gl = absurd gp
reads_parts dp dl (pages true n0 ∷ file a1 ∷ log_kib true n2 ∷ []) name np nl fit one gp gl = subst (ReadsParts (pages true n0 ∷ file a1 ∷ log_kib true n2 ∷ [])) (same_head a1 name one) (reads_pjflj a1 (decimal n0) (decimal n2) (plain_file a1 fit.1.0))
reads_parts dp dl (pages true n0 ∷ file a1 ∷ log_kib false n2 ∷ []) name np nl fit one gp gl = subst (ReadsParts (pages true n0 ∷ file a1 ∷ log_kib false n2 ∷ [])) (same_head a1 name one) (reads_pjfla a1 (decimal n0) (decimal n2) (plain_file a1 fit.1.0) (plain_number n2 (omega (arith, fit.1.1.0.0)) (omega (arith, fit.1.1.0.1))))
reads_parts dp dl (pages false n0 ∷ file a1 ∷ log_kib true n2 ∷ []) name np nl fit one gp gl = subst (ReadsParts (pages false n0 ∷ file a1 ∷ log_kib true n2 ∷ [])) (same_head a1 name one) (reads_paflj a1 (decimal n0) (decimal n2) (plain_number n0 (omega (arith, fit.0.0)) (omega (arith, fit.0.1))) (plain_file a1 fit.1.0))
reads_parts dp dl (pages false n0 ∷ file a1 ∷ log_kib false n2 ∷ []) name np nl fit one gp gl = subst (ReadsParts (pages false n0 ∷ file a1 ∷ log_kib false n2 ∷ [])) (same_head a1 name one) (reads_pafla a1 (decimal n0) (decimal n2) (plain_number n0 (omega (arith, fit.0.0)) (omega (arith, fit.0.1))) (plain_file a1 fit.1.0) (plain_number n2 (omega (arith, fit.1.1.0.0)) (omega (arith, fit.1.1.0.1))))
reads_parts dp dl (pages j0 n0 ∷ pages j1 n1 ∷ file a2 ∷ []) name np nl fit one gp gl = absurd gp
reads_parts dp dl (pages j0 n0 ∷ pages j1 n1 ∷ pages j2 n2 ∷ []) name np nl fit one gp gl = absurd gp
reads_parts dp dl (pages j0 n0 ∷ pages j1 n1 ∷ log_kib j2 n2 ∷ []) name np nl fit one gp gl = absurd gp
reads_parts dp dl (pages true n0 ∷ log_kib true n1 ∷ file a2 ∷ []) name np nl fit one gp gl = subst (ReadsParts (pages true n0 ∷ log_kib true n1 ∷ file a2 ∷ [])) (same_head a2 name one) (reads_pjljf a2 (decimal n0) (decimal n1) (plain_file a2 fit.1.1.0))
reads_parts dp dl (pages true n0 ∷ log_kib false n1 ∷ file a2 ∷ []) name np nl fit one gp gl = subst (ReadsParts (pages true n0 ∷ log_kib false n1 ∷ file a2 ∷ [])) (same_head a2 name one) (reads_pjlaf a2 (decimal n0) (decimal n1) (plain_number n1 (omega (arith, fit.1.0.0)) (omega (arith, fit.1.0.1))) (plain_file a2 fit.1.1.0))
reads_parts dp dl (pages false n0 ∷ log_kib true n1 ∷ file a2 ∷ []) name np nl fit one gp gl = subst (ReadsParts (pages false n0 ∷ log_kib true n1 ∷ file a2 ∷ [])) (same_head a2 name one) (reads_paljf a2 (decimal n0) (decimal n1) (plain_number n0 (omega (arith, fit.0.0)) (omega (arith, fit.0.1))) (plain_file a2 fit.1.1.0))
reads_parts dp dl (pages false n0 ∷ log_kib false n1 ∷ file a2 ∷ []) name np nl fit one gp gl = subst (ReadsParts (pages false n0 ∷ log_kib false n1 ∷ file a2 ∷ [])) (same_head a2 name one) (reads_palaf a2 (decimal n0) (decimal n1) (plain_number n0 (omega (arith, fit.0.0)) (omega (arith, fit.0.1))) (plain_number n1 (omega (arith, fit.1.0.0)) (omega (arith, fit.1.0.1))) (plain_file a2 fit.1.1.0))
reads_parts dp dl (pages j0 n0 ∷ log_kib j1 n1 ∷ pages j2 n2 ∷ []) name np nl fit one gp gl = absurd gp
reads_parts dp dl (pages j0 n0 ∷ log_kib j1 n1 ∷ log_kib j2 n2 ∷ []) name np nl fit one gp gl = absurd gl
reads_parts dp dl (log_kib j0 n0 ∷ file a1 ∷ file a2 ∷ []) name np nl fit one gp gl = absurd (cc)
reads_parts dp dl (log_kib true n0 ∷ file a1 ∷ pages true n2 ∷ []) name np nl fit one gp gl = subst (ReadsParts (log_kib true n0 ∷ file a1 ∷ pages true n2 ∷ [])) (same_head a1 name one) (reads_ljfpj a1 (decimal n2) (decimal n0) (plain_file a1 fit.1.0))
reads_parts dp dl (log_kib true n0 ∷ file a1 ∷ pages false n2 ∷ []) name np nl fit one gp gl = subst (ReadsParts (log_kib true n0 ∷ file a1 ∷ pages false n2 ∷ [])) (same_head a1 name one) (reads_ljfpa a1 (decimal n2) (decimal n0) (plain_file a1 fit.1.0) (plain_number n2 (omega (arith, fit.1.1.0.0)) (omega (arith, fit.1.1.0.1))))
reads_parts dp dl (log_kib false n0 ∷ file a1 ∷ pages true n2 ∷ []) name np nl fit one gp gl = subst (ReadsParts (log_kib false n0 ∷ file a1 ∷ pages true n2 ∷ [])) (same_head a1 name one) (reads_lafpj a1 (decimal n2) (decimal n0) (plain_number n0 (omega (arith, fit.0.0)) (omega (arith, fit.0.1))) (plain_file a1 fit.1.0))
reads_parts dp dl (log_kib false n0 ∷ file a1 ∷ pages false n2 ∷ []) name np nl fit one gp gl = subst (ReadsParts (log_kib false n0 ∷ file a1 ∷ pages false n2 ∷ [])) (same_head a1 name one) (reads_lafpa a1 (decimal n2) (decimal n0) (plain_number n0 (omega (arith, fit.0.0)) (omega (arith, fit.0.1))) (plain_file a1 fit.1.0) (plain_number n2 (omega (arith, fit.1.1.0.0)) (omega (arith, fit.1.1.0.1))))
reads_parts dp dl (log_kib j0 n0 ∷ file a1 ∷ log_kib j2 n2 ∷ []) name np nl fit one gp gl = absurd gl
reads_parts dp dl (log_kib true n0 ∷ pages true n1 ∷ file a2 ∷ []) name np nl fit one gp gl = subst (ReadsParts (log_kib true n0 ∷ pages true n1 ∷ file a2 ∷ [])) (same_head a2 name one) (reads_ljpjf a2 (decimal n1) (decimal n0) (plain_file a2 fit.1.1.0))
reads_parts dp dl (log_kib true n0 ∷ pages false n1 ∷ file a2 ∷ []) name np nl fit one gp gl = subst (ReadsParts (log_kib true n0 ∷ pages false n1 ∷ file a2 ∷ [])) (same_head a2 name one) (reads_ljpaf a2 (decimal n1) (decimal n0) (plain_number n1 (omega (arith, fit.1.0.0)) (omega (arith, fit.1.0.1))) (plain_file a2 fit.1.1.0))
reads_parts dp dl (log_kib false n0 ∷ pages true n1 ∷ file a2 ∷ []) name np nl fit one gp gl = subst (ReadsParts (log_kib false n0 ∷ pages true n1 ∷ file a2 ∷ [])) (same_head a2 name one) (reads_lapjf a2 (decimal n1) (decimal n0) (plain_number n0 (omega (arith, fit.0.0)) (omega (arith, fit.0.1))) (plain_file a2 fit.1.1.0))
reads_parts dp dl (log_kib false n0 ∷ pages false n1 ∷ file a2 ∷ []) name np nl fit one gp gl = subst (ReadsParts (log_kib false n0 ∷ pages false n1 ∷ file a2 ∷ [])) (same_head a2 name one) (reads_lapaf a2 (decimal n1) (decimal n0) (plain_number n0 (omega (arith, fit.0.0)) (omega (arith, fit.0.1))) (plain_number n1 (omega (arith, fit.1.0.0)) (omega (arith, fit.1.0.1))) (plain_file a2 fit.1.1.0))
reads_parts dp dl (log_kib j0 n0 ∷ pages j1 n1 ∷ pages j2 n2 ∷ []) name np nl fit one gp gl = absurd gp
reads_parts dp dl (log_kib j0 n0 ∷ pages j1 n1 ∷ log_kib j2 n2 ∷ []) name np nl fit one gp gl = absurd gl
reads_parts dp dl (log_kib j0 n0 ∷ log_kib j1 n1 ∷ file a2 ∷ []) name np nl fit one gp gl = absurd gl
reads_parts dp dl (log_kib j0 n0 ∷ log_kib j1 n1 ∷ pages j2 n2 ∷ []) name np nl fit one gp gl = absurd gl
reads_parts dp dl (log_kib j0 n0 ∷ log_kib j1 n1 ∷ log_kib j2 n2 ∷ []) name np nl fit one gp gl = absurd gl
reads_parts dp dl (p ∷ q ∷ r ∷ s ∷ ps) name np nl fit one gp gl =
    absurd (omega (arith, parts_length (p ∷ q ∷ r ∷ s ∷ ps), ap (λ (xs : List (List ℕ)). length xs) one, few dp (pages_in (p ∷ q ∷ r ∷ s ∷ ps)) np gp, few dl (logs_in (p ∷ q ∷ r ∷ s ∷ ps)) nl gl))
