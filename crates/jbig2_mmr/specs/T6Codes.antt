-- The code tables of ITU-T T.6 (tables 1 to 3), to be compared with the tables line by line. Each line is a mode or the
-- length of a run, and its code word. `modes` is table 1; the lists of runs are tables 2 and 3.
use Rattle.std.specs.Prelude.{ℕ, ◌-◌, pos, ◌-ℤ◌, List, [], ◌∷◌, map, codes}
use Rattle.jbig2_mmr.specs.declared.mmr.codes.Mode.{Mode}
use Rattle.jbig2_mmr.specs.declared.mmr.codes.Mode.TheVariants.{Pass, Horizontal, Vertical}

abbrev pub word : List ℕ → List ℕ  -- the bits of a text of 0s and 1s
word text = map (λ c. c - 48) text

abbrev pub vertical_right : ℕ → Mode  -- the vertical modes VR(n) and VL(n): a1 is n right of b1, or n left of it
vertical_right n = Vertical (pos n)

abbrev pub vertical_left : ℕ → Mode
vertical_left n = Vertical (pos 0 -ℤ pos n)

unfoldable pub modes : List (Mode × List ℕ)  -- T.6, table 1 (two-dimensional codes)
modes =
    (Pass, word (codes "0001")) ∷ (Horizontal, word (codes "001")) ∷ (vertical_right 0, word (codes "1")) ∷
    (vertical_right 1, word (codes "011")) ∷ (vertical_right 2, word (codes "000011")) ∷ (vertical_right 3, word (codes "0000011")) ∷
    (vertical_left 1, word (codes "010")) ∷ (vertical_left 2, word (codes "000010")) ∷ (vertical_left 3, word (codes "0000010")) ∷
    []

-- T.6, table 3 (make-up codes of both colours), and the length of run for each
unfoldable pub longer_runs : List (ℕ × List ℕ)
longer_runs =
    (1792, word (codes "00000001000")) ∷ (1856, word (codes "00000001100")) ∷ (1920, word (codes "00000001101")) ∷ (1984, word (codes "000000010010")) ∷
    (2048, word (codes "000000010011")) ∷ (2112, word (codes "000000010100")) ∷ (2176, word (codes "000000010101")) ∷ (2240, word (codes "000000010110")) ∷
    (2304, word (codes "000000010111")) ∷ (2368, word (codes "000000011100")) ∷ (2432, word (codes "000000011101")) ∷ (2496, word (codes "000000011110")) ∷
    (2560, word (codes "000000011111")) ∷
    []

unfoldable pub white_runs : List (ℕ × List ℕ)  -- T.6, tables 2 and 3 (terminating codes, then make-up codes), white
unfolding longer_runs
white_runs =
    (0, word (codes "00110101")) ∷ (1, word (codes "000111")) ∷ (2, word (codes "0111")) ∷ (3, word (codes "1000")) ∷
    (4, word (codes "1011")) ∷ (5, word (codes "1100")) ∷ (6, word (codes "1110")) ∷ (7, word (codes "1111")) ∷
    (8, word (codes "10011")) ∷ (9, word (codes "10100")) ∷ (10, word (codes "00111")) ∷ (11, word (codes "01000")) ∷
    (12, word (codes "001000")) ∷ (13, word (codes "000011")) ∷ (14, word (codes "110100")) ∷ (15, word (codes "110101")) ∷
    (16, word (codes "101010")) ∷ (17, word (codes "101011")) ∷ (18, word (codes "0100111")) ∷ (19, word (codes "0001100")) ∷
    (20, word (codes "0001000")) ∷ (21, word (codes "0010111")) ∷ (22, word (codes "0000011")) ∷ (23, word (codes "0000100")) ∷
    (24, word (codes "0101000")) ∷ (25, word (codes "0101011")) ∷ (26, word (codes "0010011")) ∷ (27, word (codes "0100100")) ∷
    (28, word (codes "0011000")) ∷ (29, word (codes "00000010")) ∷ (30, word (codes "00000011")) ∷ (31, word (codes "00011010")) ∷
    (32, word (codes "00011011")) ∷ (33, word (codes "00010010")) ∷ (34, word (codes "00010011")) ∷ (35, word (codes "00010100")) ∷
    (36, word (codes "00010101")) ∷ (37, word (codes "00010110")) ∷ (38, word (codes "00010111")) ∷ (39, word (codes "00101000")) ∷
    (40, word (codes "00101001")) ∷ (41, word (codes "00101010")) ∷ (42, word (codes "00101011")) ∷ (43, word (codes "00101100")) ∷
    (44, word (codes "00101101")) ∷ (45, word (codes "00000100")) ∷ (46, word (codes "00000101")) ∷ (47, word (codes "00001010")) ∷
    (48, word (codes "00001011")) ∷ (49, word (codes "01010010")) ∷ (50, word (codes "01010011")) ∷ (51, word (codes "01010100")) ∷
    (52, word (codes "01010101")) ∷ (53, word (codes "00100100")) ∷ (54, word (codes "00100101")) ∷ (55, word (codes "01011000")) ∷
    (56, word (codes "01011001")) ∷ (57, word (codes "01011010")) ∷ (58, word (codes "01011011")) ∷ (59, word (codes "01001010")) ∷
    (60, word (codes "01001011")) ∷ (61, word (codes "00110010")) ∷ (62, word (codes "00110011")) ∷ (63, word (codes "00110100")) ∷
    (64, word (codes "11011")) ∷ (128, word (codes "10010")) ∷ (192, word (codes "010111")) ∷ (256, word (codes "0110111")) ∷
    (320, word (codes "00110110")) ∷ (384, word (codes "00110111")) ∷ (448, word (codes "01100100")) ∷ (512, word (codes "01100101")) ∷
    (576, word (codes "01101000")) ∷ (640, word (codes "01100111")) ∷ (704, word (codes "011001100")) ∷ (768, word (codes "011001101")) ∷
    (832, word (codes "011010010")) ∷ (896, word (codes "011010011")) ∷ (960, word (codes "011010100")) ∷ (1024, word (codes "011010101")) ∷
    (1088, word (codes "011010110")) ∷ (1152, word (codes "011010111")) ∷ (1216, word (codes "011011000")) ∷ (1280, word (codes "011011001")) ∷
    (1344, word (codes "011011010")) ∷ (1408, word (codes "011011011")) ∷ (1472, word (codes "010011000")) ∷ (1536, word (codes "010011001")) ∷
    (1600, word (codes "010011010")) ∷ (1664, word (codes "011000")) ∷ (1728, word (codes "010011011")) ∷
    longer_runs

unfoldable pub black_runs : List (ℕ × List ℕ)  -- the same, black
unfolding longer_runs
black_runs =
    (0, word (codes "0000110111")) ∷ (1, word (codes "010")) ∷ (2, word (codes "11")) ∷ (3, word (codes "10")) ∷
    (4, word (codes "011")) ∷ (5, word (codes "0011")) ∷ (6, word (codes "0010")) ∷ (7, word (codes "00011")) ∷
    (8, word (codes "000101")) ∷ (9, word (codes "000100")) ∷ (10, word (codes "0000100")) ∷ (11, word (codes "0000101")) ∷
    (12, word (codes "0000111")) ∷ (13, word (codes "00000100")) ∷ (14, word (codes "00000111")) ∷ (15, word (codes "000011000")) ∷
    (16, word (codes "0000010111")) ∷ (17, word (codes "0000011000")) ∷ (18, word (codes "0000001000")) ∷ (19, word (codes "00001100111")) ∷
    (20, word (codes "00001101000")) ∷ (21, word (codes "00001101100")) ∷ (22, word (codes "00000110111")) ∷ (23, word (codes "00000101000")) ∷
    (24, word (codes "00000010111")) ∷ (25, word (codes "00000011000")) ∷ (26, word (codes "000011001010")) ∷ (27, word (codes "000011001011")) ∷
    (28, word (codes "000011001100")) ∷ (29, word (codes "000011001101")) ∷ (30, word (codes "000001101000")) ∷ (31, word (codes "000001101001")) ∷
    (32, word (codes "000001101010")) ∷ (33, word (codes "000001101011")) ∷ (34, word (codes "000011010010")) ∷ (35, word (codes "000011010011")) ∷
    (36, word (codes "000011010100")) ∷ (37, word (codes "000011010101")) ∷ (38, word (codes "000011010110")) ∷ (39, word (codes "000011010111")) ∷
    (40, word (codes "000001101100")) ∷ (41, word (codes "000001101101")) ∷ (42, word (codes "000011011010")) ∷ (43, word (codes "000011011011")) ∷
    (44, word (codes "000001010100")) ∷ (45, word (codes "000001010101")) ∷ (46, word (codes "000001010110")) ∷ (47, word (codes "000001010111")) ∷
    (48, word (codes "000001100100")) ∷ (49, word (codes "000001100101")) ∷ (50, word (codes "000001010010")) ∷ (51, word (codes "000001010011")) ∷
    (52, word (codes "000000100100")) ∷ (53, word (codes "000000110111")) ∷ (54, word (codes "000000111000")) ∷ (55, word (codes "000000100111")) ∷
    (56, word (codes "000000101000")) ∷ (57, word (codes "000001011000")) ∷ (58, word (codes "000001011001")) ∷ (59, word (codes "000000101011")) ∷
    (60, word (codes "000000101100")) ∷ (61, word (codes "000001011010")) ∷ (62, word (codes "000001100110")) ∷ (63, word (codes "000001100111")) ∷
    (64, word (codes "0000001111")) ∷ (128, word (codes "000011001000")) ∷ (192, word (codes "000011001001")) ∷ (256, word (codes "000001011011")) ∷
    (320, word (codes "000000110011")) ∷ (384, word (codes "000000110100")) ∷ (448, word (codes "000000110101")) ∷ (512, word (codes "0000001101100")) ∷
    (576, word (codes "0000001101101")) ∷ (640, word (codes "0000001001010")) ∷ (704, word (codes "0000001001011")) ∷ (768, word (codes "0000001001100")) ∷
    (832, word (codes "0000001001101")) ∷ (896, word (codes "0000001110010")) ∷ (960, word (codes "0000001110011")) ∷ (1024, word (codes "0000001110100")) ∷
    (1088, word (codes "0000001110101")) ∷ (1152, word (codes "0000001110110")) ∷ (1216, word (codes "0000001110111")) ∷ (1280, word (codes "0000001010010")) ∷
    (1344, word (codes "0000001010011")) ∷ (1408, word (codes "0000001010100")) ∷ (1472, word (codes "0000001010101")) ∷ (1536, word (codes "0000001011010")) ∷
    (1600, word (codes "0000001011011")) ∷ (1664, word (codes "0000001100100")) ∷ (1728, word (codes "0000001100101")) ∷
    longer_runs
